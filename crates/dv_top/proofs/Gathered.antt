-- Names and texts that are gathered one after another.
use Rattle.std.proofs.Common.{◌≡◌, ◌<◌, ◌≤◌, ◌+◌, ℕ, Bool, true, false, List, [], ◌∷◌, ◌++◌, length, take, drop, get_or, map, refl, sym, ap, ◌∙◌, arith, append_assoc, length-append, inl, inr}
use Rattle.std.specs.Prelude.{◌⊎◌, ◌||◌, nat_eq, nat_lt, if◌then◌else◌}
use Rattle.std.specs.Cmp.Lexicographic.{pointwise}
use Rattle.std.specs.List.{list_any}
use Rattle.std.proofs.lemmas.Bool.{cases_lt, cond-true, cond-false}
use Rattle.std.proofs.lemmas.Bool.Decides.{nat_tests}
use Rattle.std.proofs.lemmas.List.{take_all, take-append-le, length-take, drop-append-le, append-nil, length-drop, drop_more, drop_all}
use Rattle.std.proofs.Math.Seq.{take-append_seam}
use Rattle.dv_base.specs.FileName.{text_of}
use Rattle.dv_base.specs.declared.name.FileName.{FileName}
use Rattle.dv_top.specs.Headers.{is_among, with_name, with_names}
use Rattle.dv_top.specs.Noted.{name_noted, names_noted}
use Rattle.dv_top.specs.Texts.{texts_in, total}

-- ---- names

among_texts : (name : List ℕ) (names : List FileName) → list_any (λ n. pointwise nat_eq (text_of n) name) names ≡ is_among (map text_of names) name
among_texts name [] = refl
among_texts name (n ∷ ns) = ap (λ b. pointwise nat_eq (text_of n) name || b) (among_texts name ns)

pub among_these : (name : List ℕ) (names : List FileName) → list_any (λ n. pointwise nat_eq (text_of n) name) names ≡ is_among (map text_of names) name
among_these name names = among_texts name names

-- no more are kept than 65, and so the first 65 of all are kept
many_names : (b : Bool) (names : List (List ℕ)) (x : List ℕ) → 65 ≤ length names → take 65 (if b then names else names ++ x ∷ []) ≡ take 65 names
many_names true names x many = refl
many_names false names x many = take-append-le 65 names (x ∷ []) many

few_names : (b : Bool) (names : List (List ℕ)) (x : List ℕ) → length names < 65 → take 65 (if b then names else names ++ x ∷ []) ≡ (if b then names else names ++ x ∷ [])
few_names true names x few = take_all 65 names (omega arith)
few_names false names x few = take_all 65 (names ++ x ∷ []) (omega (arith, length-append names (x ∷ [])))

one_noted : (names : List (List ℕ)) (x : List ℕ) → (length names < 65) ⊎ (65 ≤ length names) → take 65 (with_name names x) ≡ name_noted (take 65 names) x
one_noted names x (inl few) =
    let all : take 65 names ≡ names = take_all 65 names (omega arith) in
    few_names (is_among names x) names x few
    ∙ sym (cond-false (nat_lt 64 (length names)) names (with_name names x) (grind (arith, nat_tests)))
    ∙ ap (λ ns. name_noted ns x) (sym all)
one_noted names x (inr many) =
    let full : length (take 65 names) ≡ 65 = omega (arith, length-take 65 names) in
    many_names (is_among names x) names x many
    ∙ sym (cond-true (nat_lt 64 (length (take 65 names))) (take 65 names) (with_name (take 65 names) x) (grind (arith, nat_tests)))

pub first_noted : (names xs : List (List ℕ)) → take 65 (with_names names xs) ≡ names_noted (take 65 names) xs
first_noted names [] = refl
first_noted names (x ∷ xs) = first_noted (with_name names x) xs ∙ ap (λ ns. names_noted ns xs) (one_noted names x (cases_lt (length names) 65))

pub with_both : (names xs ys : List (List ℕ)) → with_names names (xs ++ ys) ≡ with_names (with_names names xs) ys
with_both names [] ys = refl
with_both names (x ∷ xs) ys = with_both (with_name names x) xs ys

-- ---- texts

pub texts_none : texts_in [] [] ≡ []
unfolding texts_in
texts_none = refl

pub total_none : total [] ≡ 0
unfolding total
total_none = refl

pub total_next : (n : ℕ) (ns : List ℕ) → total (n ∷ ns) ≡ n + total ns
unfolding total
total_next n ns = refl

pub texts_next : (n : ℕ) (ns bytes : List ℕ) → texts_in (n ∷ ns) bytes ≡ take n bytes ∷ texts_in ns (drop n bytes)
unfolding texts_in
texts_next n ns bytes = refl

pub total_more : (ns : List ℕ) (n : ℕ) → total (ns ++ n ∷ []) ≡ total ns + n
unfolding total
total_more [] n = omega arith
total_more (m ∷ ns) n = omega (arith, total_more ns n)

pub texts_more : (ns bytes text : List ℕ) → total ns ≡ length bytes → texts_in (ns ++ length text ∷ []) (bytes ++ text) ≡ texts_in ns bytes ++ text ∷ []
unfolding texts_in total
texts_more [] [] text e = ap (λ (x : List ℕ). x ∷ []) (take_all (length text) text (omega arith))
texts_more [] (b ∷ bs) text e = absurd (omega arith)
texts_more (n ∷ ns) bytes text e =
    let first : take n (bytes ++ text) ≡ take n bytes = take-append-le n bytes text (omega arith) in
    let others : drop n (bytes ++ text) ≡ drop n bytes ++ text = drop-append-le n bytes text (omega arith) in
    (λ i. first i ∷ texts_in (ns ++ length text ∷ []) (others i))
    ∙ ap (λ (xs : List (List ℕ)). take n bytes ∷ xs) (texts_more ns (drop n bytes) text (omega (arith, length-drop n bytes)))

-- the next text stands first in what is left
pub texts_ahead : (ns bytes text behind : List ℕ) (i : ℕ) → i < length ns → text ≡ take (get_or ns i 0) bytes → behind ≡ drop (get_or ns i 0) bytes → texts_in (drop i ns) bytes ≡ text ∷ texts_in (drop (i + 1) ns) behind
texts_ahead ns bytes text behind i h first rest =
    ap (λ (l : List ℕ). texts_in l bytes) (drop_more ns i 0 h) ∙ texts_next (get_or ns i 0) (drop (i + 1) ns) bytes ∙ sym (λ j. first j ∷ texts_in (drop (i + 1) ns) (rest j))

pub total_ahead : (ns : List ℕ) (i : ℕ) → i < length ns → total (drop i ns) ≡ get_or ns i 0 + total (drop (i + 1) ns)
total_ahead ns i h = ap total (drop_more ns i 0 h) ∙ total_next (get_or ns i 0) (drop (i + 1) ns)

pub texts_behind : (ns bytes : List ℕ) (i : ℕ) → length ns ≤ i → texts_in (drop i ns) bytes ≡ []
unfolding texts_in
texts_behind ns bytes i h = ap (λ (l : List ℕ). texts_in l bytes) (drop_all i ns h)
