-- Rows without a black pixel.
use Rattle.std.proofs.Common.{◌≡◌, ◌≤◌, ◌<◌, ◌-◌, ◌/◌, ◌%◌, ◌^◌, ⊎_elim, inl, inr, ℕ, zero, suc, Bool, false, not, ◌&&◌, nat_eq, nat_lt, List, [], ◌∷◌, get_or, length, take, drop, arith, refl, sym, ap, ◌∙◌}
use Rattle.std.specs.Prelude.{min, ◌||◌, true, if◌then◌else◌}
use Rattle.std.proofs.lemmas.Bool.{cases_lt, lt-ltb, le-ltb, le-leb, lt-leb, eqb-true, eq-eqb, false_from_ne_true}
use Rattle.std.proofs.lemmas.List.{take_all, drop_all}
use Rattle.bit_lanes.specs.Bits.{all_zero}
use Rattle.ps_subset.specs.MaskEffects.{row_bytes, row_marks, rows_mark}

pub no_columns : (h : ℕ) (bytes : List ℕ) → rows_mark 0 h bytes ≡ false
no_columns zero bytes = refl
no_columns (suc h) bytes = no_columns h bytes

take_none : (n : ℕ) → take {A = ℕ} n [] ≡ []
take_none zero = refl
take_none (suc n) = refl

drop_none : (n : ℕ) → drop {A = ℕ} n [] ≡ []
drop_none zero = refl
drop_none (suc n) = refl

pub no_bytes : (w h : ℕ) → rows_mark w h [] ≡ false
no_bytes w zero = refl
no_bytes w (suc h) = (λ i. row_marks w (take_none (row_bytes w) i) || rows_mark w h (drop_none (row_bytes w) i)) ∙ no_bytes w h

pub empty_is : (xs : List ℕ) → length xs ≡ 0 → xs ≡ []
empty_is [] e = refl
empty_is (x ∷ xs) e = absurd (omega (arith, e))

-- what is cut off a list that may be shorter
pub take_least : (n : ℕ) (xs : List ℕ) → take (min (length xs) n) xs ≡ take n xs
take_least n xs =
    ⊎_elim (λ (h : length xs < n). ap (λ k. take k xs) (omega arith) ∙ take_all (length xs) xs (omega arith) ∙ sym (take_all n xs (omega arith)))
    (λ (h : n ≤ length xs). ap (λ k. take k xs) (omega arith)) (cases_lt (length xs) n)

pub drop_least : (n : ℕ) (xs : List ℕ) → drop (min (length xs) n) xs ≡ drop n xs
drop_least n xs =
    ⊎_elim (λ (h : length xs < n). ap (λ k. drop k xs) (omega arith) ∙ drop_all (length xs) xs (omega arith) ∙ sym (drop_all n xs (omega arith)))
    (λ (h : n ≤ length xs). ap (λ k. drop k xs) (omega arith)) (cases_lt (length xs) n)

-- The first row is the front of the bytes. Where it is white the others tell, and where it isn't it tells.
pub row_white : (w left wide : ℕ) (xs row behind : List ℕ) → 0 < left → wide ≡ row_bytes w → row ≡ take (min (length xs) wide) xs → behind ≡ drop (min (length xs) wide) xs → row_marks w row ≡ false → rows_mark w left xs ≡ rows_mark w (left - 1) behind
row_white w zero wide xs row behind some e r b white = absurd (omega arith)
row_white w (suc h) wide xs row behind some e r b white =
    let front : take (row_bytes w) xs ≡ row = ap (λ n. take n xs) (sym e) ∙ sym (take_least wide xs) ∙ sym r in
    let rest : drop (row_bytes w) xs ≡ behind = ap (λ n. drop n xs) (sym e) ∙ sym (drop_least wide xs) ∙ sym b in
    let less : h ≡ suc h - 1 = omega arith in
    (λ i. row_marks w (front i) || rows_mark w h (rest i)) ∙ ap (λ c. c || rows_mark w h behind) white ∙ ap (λ n. rows_mark w n behind) less

pub row_black : (w left wide : ℕ) (xs row : List ℕ) → 0 < left → wide ≡ row_bytes w → row ≡ take (min (length xs) wide) xs → row_marks w row ≡ true → rows_mark w left xs ≡ true
row_black w zero wide xs row some e r black = absurd (omega arith)
row_black w (suc h) wide xs row some e r black =
    let front : take (row_bytes w) xs ≡ row = ap (λ n. take n xs) (sym e) ∙ sym (take_least wide xs) ∙ sym r in
    ap (λ bs. row_marks w bs || rows_mark w h (drop (row_bytes w) xs)) front ∙ ap (λ c. c || rows_mark w h (drop (row_bytes w) xs)) black

module _ (b : ℕ) where
  not_zero : nat_lt 0 b ≡ not (nat_eq b 0)
  not_zero = elim (cases_lt 0 b) [
    | inl h ↦ lt-ltb 0 b h ∙ sym (ap not (false_from_ne_true (nat_eq b 0) (λ e. omega (arith, h, eqb-true b 0 e))))
    | inr h ↦ le-ltb 0 b h ∙ sym (ap not (eq-eqb b 0 (omega (arith, h))))
  ]

not_both : (a b c : Bool) → (not (a && b) || c) ≡ (not a || (not b || c))
not_both true b c = refl
not_both false b c = refl

or_none : (a : Bool) → (a || false) ≡ a
or_none true = refl
or_none false = refl

-- a row of no columns, of a part of a byte, and of a byte and more
no_marks : (xs : List ℕ) → ((k : ℕ) → get_or xs k 0 < 256) → row_marks 0 xs ≡ false
no_marks [] h = refl
no_marks (b ∷ bs) h = le-ltb 0 (b / 256) (omega (arith, h 0))

pub marks_front : (w : ℕ) (xs : List ℕ) → w ≤ 8 → 0 < length xs → row_marks w xs ≡ not (nat_eq (get_or xs 0 0 / 2 ^ (8 - w)) 0)
marks_front w [] few some = absurd (omega (arith, some))
marks_front w (b ∷ bs) few some =
    ap (λ t. if t then nat_lt 0 (b / 2 ^ (8 - w)) else (nat_lt 0 b || row_marks (w - 8) bs)) (le-leb w 8 few) ∙ not_zero (b / 2 ^ (8 - w))

marks_next : (w b : ℕ) (bs : List ℕ) → 8 ≤ w → ((k : ℕ) → get_or bs k 0 < 256) → row_marks w (b ∷ bs) ≡ (not (nat_eq b 0) || row_marks (w - 8) bs)
marks_next w b bs many h = elim (cases_lt 8 w) [
  | inl a ↦ ap (λ t. if t then nat_lt 0 (b / 2 ^ (8 - w)) else (nat_lt 0 b || row_marks (w - 8) bs)) (lt-leb w 8 a) ∙ ap (λ t. t || row_marks (w - 8) bs) (not_zero b)
  | inr a ↦ (
      let none : w - 8 ≡ 0 = omega (arith, a) in
      let all : 8 - w ≡ 0 = omega (arith, a, many) in
      let one : b / 1 ≡ b = omega arith in
      ap (λ t. if t then nat_lt 0 (b / 2 ^ (8 - w)) else (nat_lt 0 b || row_marks (w - 8) bs)) (le-leb w 8 a)
      ∙ ap (λ k. nat_lt 0 (b / 2 ^ k)) all
      ∙ ap (λ n. nat_lt 0 n) one
      ∙ not_zero b
      ∙ sym (ap (λ n. not (nat_eq b 0) || row_marks n bs) none ∙ ap (λ t. not (nat_eq b 0) || t) (no_marks bs h) ∙ or_none (not (nat_eq b 0))))
]

-- A row is marked where one of its whole bytes isn't 0, or the part of the byte behind them.
pub marks_parted : (w : ℕ) (row : List ℕ) → ((k : ℕ) → get_or row k 0 < 256) → row_marks w row ≡ (not (all_zero (take (w / 8) row)) || row_marks (w % 8) (drop (w / 8) row))
marks_parted w [] h = sym (λ i. not (all_zero (take_none (w / 8) i)) || row_marks (w % 8) (drop_none (w / 8) i))
marks_parted w (b ∷ bs) h = elim (cases_lt w 8) [
  | inl a ↦ (
      let d : 0 ≡ w / 8 = omega (arith, a) in
      let m : w ≡ w % 8 = omega (arith, a) in
      ap (λ q. not (all_zero (take q (b ∷ bs))) || row_marks w (drop q (b ∷ bs))) d ∙ ap (λ r. not (all_zero (take (w / 8) (b ∷ bs))) || row_marks r (drop (w / 8) (b ∷ bs))) m)
  | inr a ↦ (
      let d : suc ((w - 8) / 8) ≡ w / 8 = omega (arith, a) in
      let m : (w - 8) % 8 ≡ w % 8 = omega (arith, a) in
      let front = take ((w - 8) / 8) bs in
      let rest = row_marks ((w - 8) % 8) (drop ((w - 8) / 8) bs) in
      marks_next w b bs a (λ k. h (suc k))
      ∙ ap (λ t. not (nat_eq b 0) || t) (marks_parted (w - 8) bs (λ k. h (suc k)))
      ∙ sym (not_both (nat_eq b 0) (all_zero front) rest)
      ∙ ap (λ q. not (all_zero (take q (b ∷ bs))) || row_marks ((w - 8) % 8) (drop q (b ∷ bs))) d
      ∙ ap (λ r. not (all_zero (take (w / 8) (b ∷ bs))) || row_marks r (drop (w / 8) (b ∷ bs))) m)
]
