-- Codes of a string, one after another.
use Rattle.std.proofs.Common.{◌≡◌, ◌<◌, ◌+◌, ℕ, zero, suc, List, [], ◌∷◌, ◌++◌, take, length, get_or, arith, sym, ap, ◌∙◌, add-one, append_assoc}
use Rattle.std.proofs.lemmas.List.{append-nil}
use Rattle.ps_subset.specs.Strings.{escape, escapes}

-- one code more
pub escapes_more : (xs : List ℕ) (i : ℕ) → i < length xs → escapes (take i xs) ++ escape (get_or xs i 0) ≡ escapes (take (i + 1) xs)
escapes_more [] i h = absurd (omega arith)
escapes_more (y ∷ ys) zero h = sym (append-nil (escape y))
escapes_more (y ∷ ys) (suc i) h =
    append_assoc (escape y) (escapes (take i ys)) (escape (get_or ys i 0)) ∙ ap (λ bs. escape y ++ bs) (escapes_more ys i (omega arith) ∙ ap (λ n. escapes (take n ys)) (add-one i)) ∙
    ap (λ n. escapes (take n (y ∷ ys))) (sym (add-one (suc i)))
