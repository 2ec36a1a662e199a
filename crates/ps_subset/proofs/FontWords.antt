-- The names of fonts, numbers before brackets, and blocks are read as they stand.
use Rattle.std.proofs.Common.{◌≡◌, refl, ap, sym, ◌∙◌, ℕ, suc, ◌<◌, ◌^◌, List, [], ◌∷◌, ◌++◌, length, Option, Some, arith, true, append_assoc}
use Rattle.std.specs.Prelude.{codes, ℤ, pos, negsuc, neg_ℤ, decimal}
use Rattle.std.specs.Fmt.{signed_decimal}
use Rattle.std.specs.Str.{all_ascii_digits}
use Rattle.std.specs.Str.Parse.{digits_value}
use Rattle.std.proofs.lemmas.Bool.{lt-ltb}
use Rattle.std.proofs.lemmas.List.{append-nil}
use Rattle.std.proofs.lemmas.Fmt.{decimal_is_IsNumeral, digits_decimal, decimal_nonempty}
use Rattle.ps_subset.specs.Token.{Number, Name, Literal, Block}
use Rattle.ps_subset.specs.Reading.{Word, LiteralWord, Comment, Passing, between, tokens_from, next, begin, number_of, number_or_name, announced, comment_ends}
use Rattle.ps_subset.specs.Job.{IsInRange}
use Rattle.ps_subset.specs.Fonts.{font_name}
use Rattle.ps_subset.specs.Blocks.{block_lines}
use Rattle.ps_subset.proofs.Reading.{Reads}
use Rattle.ps_subset.proofs.Numbers.{own, word_reads, begins, number_of_digits, minus_of_digits, digit_regular, first_digit, more_digits, one_line-append, one_line-decimal}
use Rattle.ps_subset.proofs.Comments.{passes}

-- a bracket ends a number and is a name by itself
bracket_ends : (w rest : List ℕ) (n : ℤ) → number_of w ≡ Some n → tokens_from (record { mode = Word w; unclosed = [] }) (91 ∷ rest) ≡ Number n ∷ Name (codes "[") ∷ tokens_from between rest
unfolding tokens_from next begin
bracket_ends w rest n h = ap (λ o. number_or_name o w ∷ Name (codes "[") ∷ tokens_from between rest) h

closing_ends : (w rest : List ℕ) (n : ℤ) → number_of w ≡ Some n → tokens_from (record { mode = Word w; unclosed = [] }) (93 ∷ rest) ≡ Number n ∷ Name (codes "]") ∷ tokens_from between rest
unfolding tokens_from next begin
closing_ends w rest n h = ap (λ o. number_or_name o w ∷ Name (codes "]") ∷ tokens_from between rest) h

digits_begin : (ds rest : List ℕ) → all_ascii_digits ds ≡ true → 0 < length ds → tokens_from between (ds ++ rest) ≡ tokens_from (record { mode = Word ds; unclosed = [] }) rest
digits_begin [] rest h long = absurd (omega arith)
digits_begin (d ∷ ds) rest h long = begins d (ds ++ rest) (digit_regular d (first_digit d ds h)) ∙ word_reads (d ∷ []) ds rest (more_digits d ds h)

minus_begins : (ds rest : List ℕ) → all_ascii_digits ds ≡ true → tokens_from between (45 ∷ ds ++ rest) ≡ tokens_from (record { mode = Word (45 ∷ ds); unclosed = [] }) rest
minus_begins ds rest h = begins 45 (ds ++ rest) refl ∙ word_reads (45 ∷ []) ds rest h

pub opened_reads : (n : ℕ) → n < 2 ^ 64 → Reads (decimal n ++ codes "[") (Number (pos n) ∷ Name (codes "[") ∷ [])
opened_reads n small = record {
  by = λ rest.
      let digits = digits_decimal own n small in
      let some = decimal_nonempty n small in
      ap (tokens_from between) (append_assoc (decimal n) (91 ∷ []) rest) ∙ digits_begin (decimal n) (91 ∷ rest) digits some ∙
      bracket_ends (decimal n) rest (pos (digits_value 10 (decimal n))) (number_of_digits (decimal n) digits some) ∙
      ap (λ v. Number (pos v) ∷ Name (codes "[") ∷ tokens_from between rest) ((decimal_is_IsNumeral n small).1);
}

pub closed_number_reads : (z : ℤ) → IsInRange z → Reads (signed_decimal z ++ codes "]") (Number z ∷ Name (codes "]") ∷ [])
closed_number_reads (pos n) small = record {
  by = λ rest.
      let fits : n < 2 ^ 64 = omega arith in
      let digits = digits_decimal own n fits in
      let some = decimal_nonempty n fits in
      ap (tokens_from between) (append_assoc (decimal n) (93 ∷ []) rest) ∙ digits_begin (decimal n) (93 ∷ rest) digits some ∙
      closing_ends (decimal n) rest (pos (digits_value 10 (decimal n))) (number_of_digits (decimal n) digits some) ∙
      ap (λ v. Number (pos v) ∷ Name (codes "]") ∷ tokens_from between rest) ((decimal_is_IsNumeral n fits).1);
}
closed_number_reads (negsuc n) small = record {
  by = λ rest.
      let fits : suc n < 2 ^ 64 = omega arith in
      let digits = digits_decimal own (suc n) fits in
      let some = decimal_nonempty (suc n) fits in
      ap (λ l. tokens_from between (45 ∷ l)) (append_assoc (decimal (suc n)) (93 ∷ []) rest) ∙ minus_begins (decimal (suc n)) (93 ∷ rest) digits ∙
      closing_ends (45 ∷ decimal (suc n)) rest (neg_ℤ (pos (digits_value 10 (decimal (suc n))))) (minus_of_digits (decimal (suc n)) digits some) ∙
      ap (λ v. Number (neg_ℤ (pos v)) ∷ Name (codes "]") ∷ tokens_from between rest) ((decimal_is_IsNumeral (suc n) fits).1);
}

-- the name of a font
name_ends : (ds rest : List ℕ) → tokens_from (record { mode = Word (70 ∷ ds); unclosed = [] }) (32 ∷ rest) ≡ Name (70 ∷ ds) ∷ tokens_from between rest
unfolding tokens_from next begin
name_ends ds rest = refl

literal_on : (w ds rest : List ℕ) → all_ascii_digits ds ≡ true → tokens_from (record { mode = LiteralWord w; unclosed = [] }) (ds ++ rest) ≡ tokens_from (record { mode = LiteralWord (w ++ ds); unclosed = [] }) rest
unfolding tokens_from next
literal_on w [] rest h = ap (λ v. tokens_from (record { mode = LiteralWord v; unclosed = [] }) rest) (sym (append-nil w))
literal_on w (d ∷ ds) rest h =
    rw (digit_regular d (first_digit d ds h)) (literal_on (w ++ d ∷ []) ds rest (more_digits d ds h) ∙ ap (λ v. tokens_from (record { mode = LiteralWord v; unclosed = [] }) rest) (append_assoc w (d ∷ []) ds))

literal_begins : (rest : List ℕ) → tokens_from between (47 ∷ 70 ∷ rest) ≡ tokens_from (record { mode = LiteralWord (70 ∷ []); unclosed = [] }) rest
unfolding tokens_from next begin
literal_begins rest = refl

literal_ends : (ds rest : List ℕ) → tokens_from (record { mode = LiteralWord (70 ∷ ds); unclosed = [] }) (32 ∷ rest) ≡ Literal (70 ∷ ds) ∷ tokens_from between rest
unfolding tokens_from next begin
literal_ends ds rest = refl

pub font_name_reads : (id : ℕ) → id < 2 ^ 64 → Reads (font_name id ++ codes " ") (Name (font_name id) ∷ [])
font_name_reads id small = record {
  by = λ rest.
      ap (λ l. tokens_from between (70 ∷ l)) (append_assoc (decimal id) (32 ∷ []) rest) ∙ begins 70 (decimal id ++ 32 ∷ rest) refl ∙
      word_reads (70 ∷ []) (decimal id) (32 ∷ rest) (digits_decimal own id small) ∙ name_ends (decimal id) rest;
}

pub font_literal_reads : (id : ℕ) → id < 2 ^ 64 → Reads (codes "/" ++ (font_name id ++ codes " ")) (Literal (font_name id) ∷ [])
font_literal_reads id small = record {
  by = λ rest.
      ap (λ l. tokens_from between (47 ∷ 70 ∷ l)) (append_assoc (decimal id) (32 ∷ []) rest) ∙ literal_begins (decimal id ++ 32 ∷ rest) ∙
      literal_on (70 ∷ []) (decimal id) (32 ∷ rest) (digits_decimal own id small) ∙ literal_ends (decimal id) rest;
}

-- a block
announced_is : (n : ℕ) → n < 2 ^ 64 → announced (codes "TeXblock: " ++ decimal n) ≡ Some n
announced_is n small =
    rw (digits_decimal own n small, lt-ltb 0 (length (decimal n)) (decimal_nonempty n small)) (ap Some ((decimal_is_IsNumeral n small).1))

comment_begins : (rest : List ℕ) → tokens_from between (37 ∷ rest) ≡ tokens_from (record { mode = Comment []; unclosed = [] }) rest
unfolding tokens_from next begin
comment_begins rest = refl

line_ends : (bytes rest : List ℕ) (o : Option ℕ) → announced bytes ≡ o → tokens_from (record { mode = Comment bytes; unclosed = [] }) (10 ∷ rest) ≡ (comment_ends o bytes []).ended ++ tokens_from (comment_ends o bytes []).onward rest
unfolding tokens_from next
line_ends bytes rest o h = ap (λ q. (comment_ends q bytes []).ended ++ tokens_from (comment_ends q bytes []).onward rest) h

passing_on : (so_far : List ℕ) (b : ℕ) (bytes rest : List ℕ) → tokens_from (record { mode = Passing (suc (length bytes)) so_far; unclosed = [] }) (b ∷ bytes ++ rest) ≡ Block (so_far ++ b ∷ bytes) ∷ tokens_from between rest
unfolding tokens_from next
passing_on so_far b [] rest = refl
passing_on so_far b (c ∷ bytes) rest = passing_on (so_far ++ b ∷ []) c bytes rest ∙ ap (λ l. Block l ∷ tokens_from between rest) (append_assoc so_far (b ∷ []) (c ∷ bytes))

line_end_is_white : (rest : List ℕ) → tokens_from between (10 ∷ rest) ≡ tokens_from between rest
unfolding tokens_from next begin
line_end_is_white rest = refl

block_passes : (bytes rest : List ℕ) → (comment_ends (Some (length bytes)) (codes "TeXblock: " ++ decimal (length bytes)) []).ended ++ tokens_from (comment_ends (Some (length bytes)) (codes "TeXblock: " ++ decimal (length bytes)) []).onward (bytes ++ 10 ∷ rest) ≡ Block bytes ∷ tokens_from between rest
block_passes [] rest = ap (λ ts. Block [] ∷ ts) (line_end_is_white rest)
block_passes (b ∷ bytes) rest = passing_on [] b bytes (10 ∷ rest) ∙ ap (λ ts. Block (b ∷ bytes) ∷ ts) (line_end_is_white rest)

pub block_reads : (bytes : List ℕ) → length bytes < 2 ^ 63 → Reads (block_lines bytes) (Block bytes ∷ [])
block_reads bytes small = record {
  by = λ rest.
      let head = codes "TeXblock: " ++ decimal (length bytes) in
      let fits : length bytes < 2 ^ 64 = omega arith in
      ap (λ l. tokens_from between (37 ∷ l)) (append_assoc (head ++ 10 ∷ []) (bytes ++ 10 ∷ []) rest ∙ append_assoc head (10 ∷ []) ((bytes ++ 10 ∷ []) ++ rest)) ∙
      comment_begins (head ++ 10 ∷ ((bytes ++ 10 ∷ []) ++ rest)) ∙
      passes [] head (10 ∷ ((bytes ++ 10 ∷ []) ++ rest)) (one_line-append (codes "TeXblock: ") (decimal (length bytes)) refl (one_line-decimal (length bytes) fits)) ∙
      line_ends head ((bytes ++ 10 ∷ []) ++ rest) (Some (length bytes)) (announced_is (length bytes) fits) ∙
      ap (λ l. (comment_ends (Some (length bytes)) head []).ended ++ tokens_from (comment_ends (Some (length bytes)) head []).onward l) (append_assoc bytes (10 ∷ []) rest) ∙
      block_passes bytes rest;
}

-- Font names are no names of the prolog's, and differ where their numbers do.
pub decimal_same : (a b : ℕ) → a < 2 ^ 64 → b < 2 ^ 64 → decimal a ≡ decimal b → a ≡ b
decimal_same a b ha hb e = sym ((decimal_is_IsNumeral a ha).1) ∙ ap (digits_value 10) e ∙ (decimal_is_IsNumeral b hb).1
