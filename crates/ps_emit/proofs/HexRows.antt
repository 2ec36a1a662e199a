-- The bytes of a glyph's rows as hexadecimal digits, 32 bytes a line.
use Rattle.std.proofs.Common.{◌≡◌, ◌≤◌, ◌<◌, ◌-◌, ◌/◌, ◌%◌, ◌⊎◌, inl, inr, ⊎_elim, ℕ, zero, suc, Bool, true, false, List, [], ◌∷◌, ◌++◌, length, take, drop, arith, Fits, w8, refl, sym, ap, ◌∙◌}
use Rattle.std.specs.Prelude.{min, nat_eq, slice_index}
use Rattle.std.proofs.lemmas.Bool.Decides.{nat_tests}
use Rattle.std.proofs.lemmas.Bool.{cases_lt}
use Rattle.std.proofs.lemmas.List.{drop_all, length-take, take-append-drop}
use Rattle.hex.specs.Hex.{encode_with, encode_lower, lower_digits}
use Rattle.ps_subset.specs.FontText.{hex_glyph, hex_text}
use Rattle.ps_subset.proofs.Hex.{below, below_is}
use Rattle.ps_emit.specs.LetterLines.{row_text}

pub byte_below : (bytes : List ℕ) → ((i : ℕ) → Fits w8 (slice_index bytes i)) → (i : ℕ) → slice_index bytes i < 256
byte_below bytes f i = omega (arith, f i)

digit_same : (d : ℕ) → d < 16 → slice_index lower_digits d ≡ hex_glyph d
unfolding below
digit_same d h = let e = below_is (λ n. nat_eq (slice_index lower_digits n) (hex_glyph n)) 16 d refl h in grind (arith, nat_tests, e)

pub lower_same : (n : ℕ) (bytes : List ℕ) → length bytes ≤ n → ((i : ℕ) → slice_index bytes i < 256) → encode_lower bytes ≡ hex_text n bytes
unfolding encode_with
lower_same n [] h small = refl
lower_same zero (b ∷ bs) h small = absurd (omega arith)
lower_same (suc n) (b ∷ bs) h small =
    let low : b < 256 = small 0 in
    λ i. digit_same (b / 16) (omega (arith, low)) i ∷ digit_same (b % 16) (omega arith) i ∷ lower_same n bs (omega arith) (λ k. small (suc k)) i

-- how many bytes the present line still takes
abbrev pub room : Bool → ℕ
room true = 0
room false = 32

-- bytes that have room on the line, and others behind them
fits : (n : ℕ) (xs ys : List ℕ) → length xs ≤ n → hex_text n (xs ++ ys) ≡ hex_text n xs ++ hex_text (n - length xs) ys
fits n [] ys h = let e : n ≡ n - 0 = omega arith in ap (λ k. hex_text k ys) e
fits zero (x ∷ xs) ys h = absurd (omega arith)
fits (suc n) (x ∷ xs) ys h =
    let e : suc n - length (x ∷ xs) ≡ n - length xs = omega arith in
    ap (λ bs. hex_glyph (x / 16) ∷ hex_glyph (x % 16) ∷ bs) (fits n xs ys (omega arith) ∙ ap (λ k. hex_text n xs ++ hex_text k ys) (sym e))

full_line : (xs ys : List ℕ) → length xs ≤ 32 → (ys ≡ []) ⊎ (length xs ≡ 32) → hex_text 32 (xs ++ ys) ≡ hex_text 32 xs ++ hex_text 0 ys
full_line xs ys h (inl e) = fits 32 xs ys h ∙ ap (λ bs. hex_text 32 xs ++ hex_text (32 - length xs) bs) e ∙ ap (λ bs. hex_text 32 xs ++ hex_text 0 bs) (sym e)
full_line xs ys h (inr e) = fits 32 xs ys h ∙ ap (λ k. hex_text 32 xs ++ hex_text k ys) (omega (arith, e))

-- the next line's bytes
pub row_more : (follows : Bool) (xs ys : List ℕ) → 0 < length xs → length xs ≤ 32 → (ys ≡ []) ⊎ (length xs ≡ 32) → hex_text (room follows) (xs ++ ys) ≡ row_text follows xs ++ hex_text (room true) ys
row_more false xs ys some h whole = full_line xs ys h whole
row_more true [] ys some h whole = absurd (omega arith)
row_more true (x ∷ xs) ys some h whole = ap (λ bs. 10 ∷ bs) (full_line (x ∷ xs) ys h whole)

-- The next at most 32 bytes, and those behind them.
pub record IsNext (rest row behind : List ℕ) : Type 0 where
  pub joined : row ++ behind ≡ rest
  pub some : 0 < length row
  pub few : length row ≤ 32
  pub whole : (behind ≡ []) ⊎ (length row ≡ 32)

pub next_row : (rest row behind : List ℕ) (n : ℕ) → n ≡ min (length rest) 32 → row ≡ take n rest → behind ≡ drop n rest → 0 < length rest → IsNext rest row behind
next_row rest row behind n e r b some =
    let long : length row ≡ min n (length rest) = ap length r ∙ length-take n rest in
    record {
      joined = (λ i. r i ++ b i) ∙ take-append-drop n rest;
      some = omega (arith, long, e, some);
      few = omega (arith, long, e);
      whole = ⊎_elim (λ (h : length rest < 32). inl (b ∙ drop_all n rest (omega (arith, e, h)))) (λ (h : 32 ≤ length rest). inr (omega (arith, long, e, h))) (cases_lt (length rest) 32);
    }
