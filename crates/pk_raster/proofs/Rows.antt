use Rattle.std.proofs.Common.{◌≡◌, ℕ, zero, suc, ◌+◌, ◌/◌, ◌<◌, inl, inr, refl, sym, ◌∙◌, ap, subst, arith, List, [], ◌∷◌, ◌++◌, length, append_assoc, zero-add}
use Rattle.std.proofs.lemmas.List.{append-nil}
use Rattle.std.proofs.lemmas.Bool.{cases_eq}
use Rattle.std.proofs.lemmas.Bool.Decides.{nat_tests}
use Rattle.std.proofs.Math.Nat.{add-mul-div_left}
use Rattle.std.specs.Prelude.{replicate}
use Rattle.std.specs.List.{concat}
use Rattle.pk_raster.specs.Runs.{Item, Run, Repeat, where_same, repeats, Single, repeated}

-- ---- one base row further

pub next_row : (w p : ℕ) → 0 < w → (w + p) / w ≡ suc (p / w)
next_row w p h = ap (λ n. n / w) (omega arith) ∙ add-mul-div_left p 1 h ∙ omega arith

pub where_next : (a b n : ℕ) → where_same (suc a) (suc b) n ≡ where_same a b n
where_next a b n = elim (cases_eq a b) [ inl e ↦ grind (arith, nat_tests, e) | inr ne ↦ grind (arith, nat_tests, ne) ]

pub where_none : (a n : ℕ) → where_same (suc a) 0 n ≡ 0
where_none a n = grind (arith, nat_tests)

pub repeats_next : (w : ℕ) → 0 < w → (p : ℕ) (is : List Item) (i : ℕ) → repeats w (w + p) is (suc i) ≡ repeats w p is i
unfolding repeats
repeats_next w h p [] i = refl
repeats_next w h p (Run n ∷ is) i = ap (λ q. repeats w q is (suc i)) (omega arith) ∙ repeats_next w h (p + n) is i
repeats_next w h p (Repeat n ∷ is) i =
    let e = ap (λ q. where_same q (suc i) n) (next_row w p h) ∙ where_next (p / w) i n in
    let r = repeats_next w h p is i in
    ap (λ q. q + repeats w (w + p) is (suc i)) e ∙ ap (λ q. where_same (p / w) i n + q) r

pub repeats_none : (w : ℕ) → 0 < w → (p : ℕ) (is : List Item) → repeats w (w + p) is 0 ≡ 0
unfolding repeats
repeats_none w h p [] = refl
repeats_none w h p (Run n ∷ is) = ap (λ q. repeats w q is 0) (omega arith) ∙ repeats_none w h (p + n) is
repeats_none w h p (Repeat n ∷ is) =
    let e = ap (λ q. where_same q 0 n) (next_row w p h) ∙ where_none (p / w) n in
    let r = repeats_none w h p is in
    ap (λ q. q + repeats w (w + p) is 0) e ∙ zero-add (repeats w (w + p) is 0) ∙ r

pub single_back : (w : ℕ) → 0 < w → (p : ℕ) (is : List Item) → Single w p is → Single w (w + p) is
unfolding Single
single_back w h p [] s = tt
single_back w h p (Run n ∷ is) s = let P : ℕ → Type 0 = λ q. Single w q is in let e : w + (p + n) ≡ w + p + n = omega arith in subst P e (single_back w h (p + n) is s)
single_back w h p (Repeat n ∷ is) s = (ap (repeats w (w + p) is) (next_row w p h) ∙ repeats_next w h p is (p / w) ∙ s.0, single_back w h p is s.1)

pub single_next : (w : ℕ) → 0 < w → (p : ℕ) (is : List Item) → Single w (w + p) is → Single w p is
unfolding Single
single_next w h p [] s = tt
single_next w h p (Run n ∷ is) s = let P : ℕ → Type 0 = λ q. Single w q is in let e : w + p + n ≡ w + (p + n) = omega arith in single_next w h (p + n) is (subst P e s)
single_next w h p (Repeat n ∷ is) s = (sym (ap (repeats w (w + p) is) (next_row w p h) ∙ repeats_next w h p is (p / w)) ∙ s.0, single_next w h p is s.1)

pub repeated_same : (r s : ℕ → ℕ) (rows : List (List ℕ)) → ((i : ℕ) → r i ≡ s i) → repeated r rows ≡ repeated s rows
unfolding repeated
repeated_same r s [] h = refl
repeated_same r s (row ∷ rows) h =
    ap (λ n. replicate (1 + n) row ++ repeated (λ i. r (suc i)) rows) (h 0) ∙ ap (λ xs. replicate (1 + s 0) row ++ xs) (repeated_same (λ i. r (suc i)) (λ i. s (suc i)) rows (λ i. h (suc i)))

pub replicate_add : (a b c : ℕ) → replicate (a + b) c ≡ replicate a c ++ replicate b c
replicate_add zero b c = ap (λ n. replicate n c) (zero-add b)
replicate_add (suc a) b c = let e : suc a + b ≡ suc (a + b) = omega arith in ap (λ n. replicate n c) e ∙ ap (λ xs. c ∷ xs) (replicate_add a b c)

-- two lists cut at one length
pub cut : (xs ys zs ws : List ℕ) → length xs ≡ length zs → xs ++ ys ≡ zs ++ ws → (xs ≡ zs) × (ys ≡ ws)
cut [] ys [] ws l e = (refl, e)
cut [] ys (z ∷ zs) ws l e = cc
cut (x ∷ xs) ys [] ws l e = cc
cut (x ∷ xs) ys (z ∷ zs) ws l e =
    let r = cut xs ys zs ws (omega (arith, l)) (cc) in
    let hd : x ≡ z = cc in
    (ap (λ v. v ∷ xs) hd ∙ ap (λ vs. z ∷ vs) r.0, r.1)

pub concat_more : (n : ℕ) (row : List ℕ) → concat (replicate (n + 1) row) ≡ concat (replicate n row) ++ row
concat_more zero row = append-nil row
concat_more (suc n) row =
    let e : suc n + 1 ≡ suc (n + 1) = omega arith in
    ap (λ k. concat (replicate k row)) e ∙ ap (λ xs. row ++ xs) (concat_more n row) ∙ sym (append_assoc row (concat (replicate n row)) row)
