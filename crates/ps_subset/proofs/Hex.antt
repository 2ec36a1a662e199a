-- The bytes of a glyph are read as they stand: two hexadecimal digits each, inside a procedure.
use Rattle.std.proofs.Common.{◌≡◌, refl, ap, sym, ◌∙◌, ℕ, zero, suc, ◌+◌, ◌*◌, ◌/◌, ◌%◌, ◌<◌, ◌≤◌, List, [], ◌∷◌, ◌++◌, length, Option, Some, None, arith, Bool, true, false, append_assoc}
use Rattle.std.specs.Prelude.{codes, nat_eq, ◌&&◌, not}
use Rattle.std.proofs.lemmas.List.{append-nil}
use Rattle.std.proofs.lemmas.Bool.Decides.{nat_tests}
use Rattle.ps_subset.specs.Token.{Token, Text, Procedure, body_of, depth, depth_within, procedure_of}
use Rattle.ps_subset.specs.Reading.{Hex, Between, between, tokens_from, next, begin, is_white, hex_digit, hex_pairs, without_white, text_of}
use Rattle.ps_subset.specs.Fonts.{AllBytes}
use Rattle.ps_subset.specs.FontText.{hex_glyph, hex_text}
use Rattle.ps_subset.proofs.Reading.{Reads}
use Rattle.ps_subset.proofs.FontSteps.{nat_le_yes}

-- bytes inside a procedure
pub record ReadsIn (bytes : List ℕ) (ts : List Token) : Type 0 where
  pub by : (p : List Token) (rest : List ℕ) → tokens_from (record { mode = Between; unclosed = p ∷ [] }) (bytes ++ rest) ≡ tokens_from (record { mode = Between; unclosed = (p ++ ts) ∷ [] }) rest

opens : (rest : List ℕ) → tokens_from between (123 ∷ rest) ≡ tokens_from (record { mode = Between; unclosed = [] ∷ [] }) rest
unfolding tokens_from next begin
opens rest = refl

closes : (p : List Token) (rest : List ℕ) → tokens_from (record { mode = Between; unclosed = p ∷ [] }) (125 ∷ rest) ≡ procedure_of p ∷ tokens_from between rest
unfolding tokens_from next begin
closes p rest = refl

-- a test of all numbers below n
unfoldable pub below : (ℕ → Bool) → ℕ → Bool
below p zero = true
below p (suc n) = p n && below p n

pub below_is : (p : ℕ → Bool) (n k : ℕ) → below p n ≡ true → k < n → p k ≡ true
unfolding below
below_is p zero k h less = absurd (omega arith)
below_is p (suc n) k h less = go (nat_eq k n) refl (below_is p n k (right (p n) (below p n) h))
  where
    left : (a b : Bool) → (a && b) ≡ true → a ≡ true
    left true b e = refl
    left false b e = e

    right : (a b : Bool) → (a && b) ≡ true → b ≡ true
    right true b e = e
    right false b e = absurd (grind arith)

    go : (b : Bool) → nat_eq k n ≡ b → (k < n → p k ≡ true) → p k ≡ true
    go true e ih = let same : n ≡ k = grind (arith, nat_tests) in ap p (sym same) ∙ left (p n) (below p n) h
    go false e ih = let apart : k ≡ n → ⊥ = grind (arith, nat_tests) in ih (omega (arith, apart))

abbrev is_digit : Option ℕ → ℕ → Bool
is_digit (Some x) d = nat_eq x d
is_digit None d = false

is_digit_is : (o : Option ℕ) (d : ℕ) → is_digit o d ≡ true → o ≡ Some d
is_digit_is None d h = absurd (grind arith)
is_digit_is (Some x) d h = ap Some (grind (arith, nat_tests))

digit_is : (d : ℕ) → d < 16 → hex_digit (hex_glyph d) ≡ Some d
unfolding below
digit_is d h = is_digit_is (hex_digit (hex_glyph d)) d (below_is (λ n. is_digit (hex_digit (hex_glyph n)) n) 16 d refl h)

pub not_true : (b : Bool) → not b ≡ true → b ≡ false
not_true true h = sym h
not_true false h = refl

glyph_plain : (d : ℕ) → d < 16 → is_white (hex_glyph d) ≡ false
unfolding below
glyph_plain d h = not_true (is_white (hex_glyph d)) (below_is (λ n. not (is_white (hex_glyph n))) 16 d refl h)

glyph_goes_on : (d : ℕ) → d < 16 → nat_eq (hex_glyph d) 62 ≡ false
unfolding below
glyph_goes_on d h = not_true (nat_eq (hex_glyph d) 62) (below_is (λ n. not (nat_eq (hex_glyph n) 62)) 16 d refl h)

-- the two digits of a byte
pair : (b : ℕ) (text bytes : List ℕ) → b < 256 → hex_pairs (without_white text) ≡ Some bytes → hex_pairs (without_white (hex_glyph (b / 16) ∷ hex_glyph (b % 16) ∷ text)) ≡ Some (b ∷ bytes)
pair b text bytes h rest =
    let high : b / 16 < 16 = omega arith in
    let lower : b % 16 < 16 = omega arith in
    let whole : 16 * (b / 16) + b % 16 ≡ b = omega arith in
    rw (glyph_plain (b / 16) high, glyph_plain (b % 16) lower, digit_is (b / 16) high, digit_is (b % 16) lower, rest) (ap (λ n. Some (n ∷ bytes)) whole)

pairs_are : (n : ℕ) (bytes : List ℕ) → AllBytes bytes → hex_pairs (without_white (hex_text n bytes)) ≡ Some bytes
pairs_are n [] all = refl
pairs_are zero (b ∷ bs) all = pair b (hex_text 31 bs) bs all.0 (pairs_are 31 bs all.1)
pairs_are (suc n) (b ∷ bs) all = pair b (hex_text n bs) bs all.0 (pairs_are n bs all.1)

-- no byte that ends the string
abbrev NoEnd : List ℕ → Type 0
NoEnd [] = Unit {0}
NoEnd (b ∷ bs) = (nat_eq b 62 ≡ false) × NoEnd bs

no_end : (n : ℕ) (bytes : List ℕ) → AllBytes bytes → NoEnd (hex_text n bytes)
no_end n [] all = tt
no_end zero (b ∷ bs) all = (refl, (glyph_goes_on (b / 16) (high b all.0), (glyph_goes_on (b % 16) (lower b), no_end 31 bs all.1)))
  where
    high : (b : ℕ) → b < 256 → b / 16 < 16
    high b h = omega arith

    lower : (b : ℕ) → b % 16 < 16
    lower b = omega arith
no_end (suc n) (b ∷ bs) all = (glyph_goes_on (b / 16) (high b all.0), (glyph_goes_on (b % 16) (lower b), no_end n bs all.1))
  where
    high : (b : ℕ) → b < 256 → b / 16 < 16
    high b h = omega arith

    lower : (b : ℕ) → b % 16 < 16
    lower b = omega arith

hex_on : (ps : List (List Token)) (raw bytes rest : List ℕ) → NoEnd bytes → tokens_from (record { mode = Hex raw; unclosed = ps }) (bytes ++ rest) ≡ tokens_from (record { mode = Hex (raw ++ bytes); unclosed = ps }) rest
unfolding tokens_from next
hex_on ps raw [] rest h = ap (λ l. tokens_from (record { mode = Hex l; unclosed = ps }) rest) (sym (append-nil raw))
hex_on ps raw (b ∷ bs) rest h =
    rw h.0 (hex_on ps (raw ++ b ∷ []) bs rest h.1 ∙ ap (λ l. tokens_from (record { mode = Hex l; unclosed = ps }) rest) (append_assoc raw (b ∷ []) bs))

hex_begins : (p : List Token) (rest : List ℕ) → tokens_from (record { mode = Between; unclosed = p ∷ [] }) (60 ∷ rest) ≡ tokens_from (record { mode = Hex []; unclosed = p ∷ [] }) rest
unfolding tokens_from next begin
hex_begins p rest = refl

hex_ends : (p : List Token) (raw rest bytes : List ℕ) → hex_pairs (without_white raw) ≡ Some bytes → length bytes ≤ 65535 → tokens_from (record { mode = Hex raw; unclosed = p ∷ [] }) (62 ∷ rest) ≡ tokens_from (record { mode = Between; unclosed = (p ++ Text bytes ∷ []) ∷ [] }) rest
unfolding tokens_from next begin
hex_ends p raw rest bytes h short =
    ap (λ o. tokens_from (record { mode = Between; unclosed = (p ++ text_of o ∷ []) ∷ [] }) rest) h ∙
    rw (nat_le_yes (length bytes) 65535 short) refl

rows_read : (n : ℕ) (bytes : List ℕ) → AllBytes bytes → length bytes ≤ 65535 → ReadsIn (60 ∷ (hex_text n bytes ++ 62 ∷ [])) (Text bytes ∷ [])
rows_read n bytes all short = record {
  by = λ p rest.
      ap (λ l. tokens_from (record { mode = Between; unclosed = p ∷ [] }) (60 ∷ l)) (append_assoc (hex_text n bytes) (62 ∷ []) rest) ∙
      hex_begins p (hex_text n bytes ++ 62 ∷ rest) ∙ hex_on (p ∷ []) [] (hex_text n bytes) (62 ∷ rest) (no_end n bytes all) ∙
      hex_ends p (hex_text n bytes) rest bytes (pairs_are n bytes all) short;
}

text_procedure : (bytes : List ℕ) → procedure_of (Text bytes ∷ []) ≡ Procedure (body_of (Text bytes ∷ []))
unfolding procedure_of depth depth_within
text_procedure bytes = refl

-- {<..>}, as a glyph's line has it
pub rows_procedure_reads : (n : ℕ) (bytes : List ℕ) → AllBytes bytes → length bytes ≤ 65535 → Reads (codes "{<" ++ (hex_text n bytes ++ codes ">}")) (Procedure (body_of (Text bytes ∷ [])) ∷ [])
rows_procedure_reads n bytes all short = record {
  by = λ rest.
      let inner : hex_text n bytes ++ 62 ∷ 125 ∷ [] ≡ (hex_text n bytes ++ 62 ∷ []) ++ 125 ∷ [] = sym (append_assoc (hex_text n bytes) (62 ∷ []) (125 ∷ [])) in
      ap (λ l. tokens_from between (123 ∷ 60 ∷ (l ++ rest))) inner ∙
      ap (λ l. tokens_from between (123 ∷ 60 ∷ l)) (append_assoc (hex_text n bytes ++ 62 ∷ []) (125 ∷ []) rest) ∙ opens (60 ∷ ((hex_text n bytes ++ 62 ∷ []) ++ 125 ∷ rest)) ∙
      (rows_read n bytes all short).by [] (125 ∷ rest) ∙ closes (Text bytes ∷ []) rest ∙ ap (λ t. t ∷ tokens_from between rest) (text_procedure bytes);
}
