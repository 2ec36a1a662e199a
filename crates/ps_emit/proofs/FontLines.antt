-- The lines of a font's letters, and of fonts, one more at a time.
use Rattle.std.proofs.Common.{◌≡◌, ◌≤◌, ◌+◌, ◌-◌, ℕ, zero, suc, Bool, List, [], ◌∷◌, ◌++◌, Option, Some, None, arith, refl, sym, ap, ◌∙◌, append_assoc, subst}
use Rattle.std.specs.Prelude.{ℤ, codes, decimal, pos, neg_ℤ, ◌-ℤ◌, if◌then◌else◌}
use Rattle.std.specs.Fmt.{signed_decimal}
use Rattle.std.proofs.lemmas.List.{append-nil}
use Rattle.pk_raster.specs.Font.{Bitmap}
use Rattle.font_set.specs.Fonts.{FontSet, bitmap_at, pixels_at}
use Rattle.sections.specs.Below.{those_below}
use Rattle.ps_subset.specs.Fonts.{Glyph, Letter, Font, font_name, printed}
use Rattle.ps_subset.specs.Lines.{natural_field, signed_field}
use Rattle.ps_subset.specs.FontText.{hex_text, letter_line, letter_lines, font_lines, fonts_lines}
use Rattle.ps_subset.specs.Prolog.{line}
use Rattle.ps_emit.specs.LetterLines.{letter_head, drawn_line}
use Rattle.ps_emit.specs.Letters.{glyph_of, letter_at, letter_by, put_letter, letters_of, font_of, some_fonts}

-- ---- the line of a letter

minus_is : (z : ℤ) → pos 0 -ℤ z ≡ neg_ℤ z
minus_is z = grind arith

-- the line of a glyph that is printed as it is
abbrev line_of : ℕ → Glyph → List ℕ
line_of code g =
    (decimal code ++ codes "[") ++
    (natural_field g.columns ++ (natural_field g.rows ++ (codes "true[1 0 0 1 " ++ (signed_field g.hoff ++ ((signed_decimal g.voff ++ codes "]") ++
    ((codes "{<" ++ (hex_text 32 g.bytes ++ codes ">}")) ++
    (signed_field g.width ++ (codes "0 " ++ (signed_field (neg_ℤ g.hoff) ++ (signed_field (neg_ℤ g.voff) ++ (signed_field (pos g.columns -ℤ g.hoff) ++
    ((signed_decimal (pos g.rows -ℤ g.voff) ++ codes "]") ++ line (codes "D")))))))))))))

letter_parts : (c o w h t x y b q r k p z l u e v d : List ℕ)
    → (c ++ (o ++ (w ++ (h ++ (t ++ (x ++ (y ++ (b ++ q)))))))) ++ (r ++ (k ++ (p ++ (z ++ (l ++ (u ++ (e ++ (v ++ (b ++ d)))))))))
    ≡ (c ++ o) ++ (w ++ (h ++ (t ++ (x ++ ((y ++ b) ++ ((q ++ (r ++ k)) ++ (p ++ (z ++ (l ++ (u ++ (e ++ ((v ++ b) ++ d))))))))))))
letter_parts c o w h t x y b q r k p z l u e v d = simp append_assoc refl

drawn_is : (code : ℕ) (b : Bitmap) (width : ℤ) → drawn_line code b width ≡ line_of code (glyph_of b width)
drawn_is code b width =
    (λ i. letter_head code b ++ (hex_text 32 b.rows ++ (codes ">}" ++ (signed_field width ++ (codes "0 " ++ (signed_field (minus_is b.hoff i) ++ (signed_field (minus_is b.voff i) ++ (signed_field (pos b.w -ℤ b.hoff) ++
    (signed_decimal (pos b.h -ℤ b.voff) ++ codes "]D\n")))))))))
    ∙ letter_parts (decimal code) (codes "[") (natural_field b.w) (natural_field b.h) (codes "true[1 0 0 1 ") (signed_field b.hoff) (signed_decimal b.voff) (codes "]") (codes "{<") (hex_text 32 b.rows) (codes ">}")
    (signed_field width) (codes "0 ") (signed_field (neg_ℤ b.hoff)) (signed_field (neg_ℤ b.voff)) (signed_field (pos b.w -ℤ b.hoff)) (signed_decimal (pos b.h -ℤ b.voff)) (line (codes "D"))

-- the letter's line is that of the glyph as it is printed
pub printed_line : (code : ℕ) (b p : Bitmap) (width : ℤ) → glyph_of p width ≡ printed (glyph_of b width) → drawn_line code p width ≡ letter_line (record { code = code; glyph = glyph_of b width })
printed_line code b p width e = drawn_is code p width ∙ ap (line_of code) e

-- a character without a bitmap or a width has no letter
pub no_bitmap : (set : FontSet) (id code : ℕ) → bitmap_at set id code ≡ None → letter_at set id code ≡ None
unfolding letter_at
no_bitmap set id code e = ap (λ o. letter_by code o (pixels_at set id code)) e

pub no_width : (set : FontSet) (id code : ℕ) → pixels_at set id code ≡ None → letter_at set id code ≡ None
unfolding letter_at
no_width set id code e = ap (letter_by code (bitmap_at set id code)) e ∙ none (bitmap_at set id code)
  where
    none : (o : Option Bitmap) → letter_by code o None ≡ None
    none None = refl
    none (Some b) = refl

-- ---- letters, code by code

put-append : (o : Option Letter) (xs ys : List Letter) → put_letter o (xs ++ ys) ≡ put_letter o xs ++ ys
put-append None xs ys = refl
put-append (Some l) xs ys = refl

letters-append : (set : FontSet) (id : ℕ) (cs ds : List ℕ) → letters_of set id (cs ++ ds) ≡ letters_of set id cs ++ letters_of set id ds
letters-append set id [] ds = refl
letters-append set id (c ∷ cs) ds = ap (put_letter (letter_at set id c)) (letters-append set id cs ds) ∙ put-append (letter_at set id c) (letters_of set id cs) (letters_of set id ds)

lines-append : (xs ys : List Letter) → letter_lines (xs ++ ys) ≡ letter_lines xs ++ letter_lines ys
lines-append [] ys = refl
lines-append (l ∷ xs) ys = ap (λ bs. letter_line l ++ bs) (lines-append xs ys) ∙ sym (append_assoc (letter_line l) (letter_lines xs) (letter_lines ys))

pub codes_lines : (set : FontSet) (id : ℕ) (cs ds : List ℕ) → letter_lines (letters_of set id (cs ++ ds)) ≡ letter_lines (letters_of set id cs) ++ letter_lines (letters_of set id ds)
codes_lines set id cs ds = ap letter_lines (letters-append set id cs ds) ∙ lines-append (letters_of set id cs) (letters_of set id ds)

-- ---- fonts, number by number

fonts-append : (set : FontSet) (used : ℕ → ℕ → Bool) (is js : List ℕ) → some_fonts set used (is ++ js) ≡ some_fonts set used is ++ some_fonts set used js
fonts-append set used [] js = refl
fonts-append set used (i ∷ is) js = ap (λ fs. font_of set used i ∷ fs) (fonts-append set used is js)

font_lines-append : (xs ys : List Font) → fonts_lines (xs ++ ys) ≡ fonts_lines xs ++ fonts_lines ys
font_lines-append [] ys = refl
font_lines-append (f ∷ xs) ys = ap (λ bs. font_lines f ++ bs) (font_lines-append xs ys) ∙ sym (append_assoc (font_lines f) (fonts_lines xs) (fonts_lines ys))

pub ids_lines : (set : FontSet) (used : ℕ → ℕ → Bool) (is js : List ℕ) → fonts_lines (some_fonts set used (is ++ js)) ≡ fonts_lines (some_fonts set used is) ++ fonts_lines (some_fonts set used js)
ids_lines set used is js = ap fonts_lines (fonts-append set used is js) ∙ font_lines-append (some_fonts set used is) (some_fonts set used js)

-- ---- the numbers below a limit that pass a test

pub none_below : (test : ℕ → Bool) → those_below test 0 ≡ []
unfolding those_below
none_below test = refl

-- a lower limit gives the first of them
pub record HasFront (xs ys : List ℕ) : Type 0 where
  pub rest : List ℕ
  pub joined : ys ++ rest ≡ xs

step : (test : ℕ → Bool) (n : ℕ) → those_below test (suc n) ≡ those_below test n ++ (if test n then (n ∷ []) else [])
unfolding those_below
step test n = refl

more_below : (test : ℕ → Bool) (n k : ℕ) → HasFront (those_below test (n + k)) (those_below test n)
more_below test n zero = record { rest = []; joined = append-nil (those_below test n) ∙ (let same : n ≡ n + 0 = omega arith in ap (those_below test) same) }
more_below test n (suc k) =
    let f = more_below test n k in
    let more : List ℕ = if test (n + k) then ((n + k) ∷ []) else [] in
    let next : suc (n + k) ≡ n + suc k = omega arith in
    record {
      rest = f.rest ++ more;
      joined = sym (append_assoc (those_below test n) f.rest more) ∙ ap (λ ys. ys ++ more) f.joined ∙ sym (step test (n + k)) ∙ ap (those_below test) next;
    }

front_below : (test : ℕ → Bool) (n m : ℕ) → n ≤ m → HasFront (those_below test m) (those_below test n)
front_below test n m h = subst (λ (k : ℕ). HasFront (those_below test k) (those_below test n)) (omega arith) (more_below test n (m - n))

next_below : (test : ℕ → Bool) (n : ℕ) → those_below test n ++ (if test n then (n ∷ []) else []) ≡ those_below test (n + 1)
next_below test n = let next : suc n ≡ n + 1 = omega arith in sym (step test n) ∙ ap (those_below test) next

-- the lines of the letters below the next code, and those of the letters below a limit
pub letters_next : (set : FontSet) (id : ℕ) (test : ℕ → Bool) (n : ℕ)
    → letter_lines (letters_of set id (those_below test n)) ++ letter_lines (letters_of set id (if test n then (n ∷ []) else [])) ≡ letter_lines (letters_of set id (those_below test (n + 1)))
letters_next set id test n = sym (codes_lines set id (those_below test n) (if test n then (n ∷ []) else [])) ∙ ap (λ cs. letter_lines (letters_of set id cs)) (next_below test n)

pub letters_rest : (set : FontSet) (id : ℕ) (test : ℕ → Bool) (n m : ℕ) → n ≤ m → (rest : List ℕ) × (letter_lines (letters_of set id (those_below test n)) ++ rest ≡ letter_lines (letters_of set id (those_below test m)))
letters_rest set id test n m h =
    let f = front_below test n m h in
    (letter_lines (letters_of set id f.rest), sym (codes_lines set id (those_below test n) f.rest) ∙ ap (λ cs. letter_lines (letters_of set id cs)) f.joined)

-- so with fonts
pub fonts_next : (set : FontSet) (used : ℕ → ℕ → Bool) (test : ℕ → Bool) (n : ℕ)
    → fonts_lines (some_fonts set used (those_below test n)) ++ fonts_lines (some_fonts set used (if test n then (n ∷ []) else [])) ≡ fonts_lines (some_fonts set used (those_below test (n + 1)))
fonts_next set used test n = sym (ids_lines set used (those_below test n) (if test n then (n ∷ []) else [])) ∙ ap (λ is. fonts_lines (some_fonts set used is)) (next_below test n)

pub fonts_rest : (set : FontSet) (used : ℕ → ℕ → Bool) (test : ℕ → Bool) (n m : ℕ) → n ≤ m → (rest : List ℕ) × (fonts_lines (some_fonts set used (those_below test n)) ++ rest ≡ fonts_lines (some_fonts set used (those_below test m)))
fonts_rest set used test n m h =
    let f = front_below test n m h in
    (fonts_lines (some_fonts set used f.rest), sym (ids_lines set used (those_below test n) f.rest) ∙ ap (λ is. fonts_lines (some_fonts set used is)) f.joined)

-- a font's first line, its letters and its end
pub font_parts : (id : ℕ) (letters : List ℕ)
    → ((codes "/F" ++ decimal id) ++ codes " FB\n") ++ (letters ++ line (codes "E")) ≡ (codes "/" ++ (font_name id ++ codes " ")) ++ (line (codes "FB") ++ (letters ++ line (codes "E")))
font_parts id letters = parts (codes "/F") (decimal id) (codes " ") (codes "FB\n") (letters ++ line (codes "E"))
  where
    parts : (a n s f rest : List ℕ) → ((a ++ n) ++ (s ++ f)) ++ rest ≡ (a ++ (n ++ s)) ++ (f ++ rest)
    parts a n s f rest = simp append_assoc refl
