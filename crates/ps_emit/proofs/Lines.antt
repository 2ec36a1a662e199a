-- Lines one after another.
use Rattle.std.proofs.Common.{◌≡◌, ◌<◌, ◌+◌, ℕ, zero, suc, List, [], ◌∷◌, ◌++◌, map, take, drop, length, get_or, arith, refl, sym, ap, ◌∙◌, add-one, append_assoc}
use Rattle.std.proofs.lemmas.List.{append-nil}
use Rattle.ps_subset.specs.Blocks.{block_lines, headers_lines}

-- the comments of a head, from the pieces that are put together
pub head_joined : (a t n b p c w h e f : List ℕ) (s : ℕ)
    → (((((((a ++ t) ++ (n ++ b)) ++ p) ++ (n ++ c)) ++ (w ++ s ∷ [])) ++ h) ++ (n ++ (e ++ f))) ≡ a ++ (((t ++ n) ++ (b ++ ((p ++ n) ++ (c ++ (((w ++ s ∷ h) ++ n) ++ e))))) ++ f)
head_joined a t n b p c w h e f s = simp append_assoc refl

-- one block more
pub blocks_more : {X : Type 0} (f : X → List ℕ) (xs : List X) (i : ℕ) (x : X) → i < length xs → x ≡ get_or xs i x
    → headers_lines (map f (take i xs)) ++ block_lines (f x) ≡ headers_lines (map f (take (i + 1) xs))
blocks_more f [] i x h e = absurd (omega arith)
blocks_more f (y ∷ ys) zero x h e = ap (λ z. block_lines (f z)) e ∙ sym (append-nil (block_lines (f y)))
blocks_more f (y ∷ ys) (suc i) x h e =
    append_assoc (block_lines (f y)) (headers_lines (map f (take i ys))) (block_lines (f x))
    ∙ ap (λ bs. block_lines (f y) ++ bs) (blocks_more f ys i x (omega arith) e ∙ ap (λ n. headers_lines (map f (take n ys))) (add-one i))
    ∙ ap (λ n. headers_lines (map f (take n (y ∷ ys)))) (sym (add-one (suc i)))

-- the blocks of a front, and then those of the rest
pub blocks_split : {X : Type 0} (f : X → List ℕ) (xs : List X) (n : ℕ)
    → headers_lines (map f (take n xs)) ++ headers_lines (map f (drop n xs)) ≡ headers_lines (map f xs)
blocks_split f [] zero = refl
blocks_split f [] (suc n) = refl
blocks_split f (x ∷ xs) zero = refl
blocks_split f (x ∷ xs) (suc n) =
    append_assoc (block_lines (f x)) (headers_lines (map f (take n xs))) (headers_lines (map f (drop n xs)))
    ∙ ap (λ bs. block_lines (f x) ++ bs) (blocks_split f xs n)
