-- How long the files are, part by part.
use Rattle.std.proofs.Common.{◌≡◌, ℕ, zero, suc, min, inl, inr, ◌+◌, ◌*◌, ◌^◌, ◌<◌, ◌≤◌, ◌/◌, [], ◌∷◌, ◌++◌, length, refl, ap, ◌∙◌, arith, add-one, length-append, nat_eq, if◌then◌else◌}
use Rattle.std.proofs.lemmas.Bool.{cases_lt}
use Rattle.std.proofs.lemmas.Grind.{common_steps}
use Rattle.sample_files.specs.Letters.{after, codes}
use Rattle.sample_files.specs.Commands.{definition, down, four, no_counts, pre, right}
use Rattle.sample_files.specs.Pages.{page, row, rows, start, words}
use Rattle.sample_files.specs.Document.{back, before_page, document, first_pages, place}
use Rattle.sample_files.specs.Widths.{infos, tfm, width, widths}
use Rattle.sample_files.specs.Bitmaps.{bytes, glyph, glyphs, octet, pk, raster}

codes_length : (n s : ℕ) → length (codes n s) ≡ n
unfolding codes
codes_length zero s = refl
codes_length (suc n) s = omega (arith, length-append {A = ℕ}, codes_length n s)

words_length : (n s : ℕ) → length (words n s) ≡ n * 14
unfolding words
words_length zero s = refl
words_length (suc n) s = omega (arith, length-append {A = ℕ}, words_length n s, codes_length 10 (after (n * 10) s))

down_short : (q : ℕ) → q < 2 ^ 23 → length (down q) ≡ 4
down_short q small = grind (arith, common_steps)

down_long : (q : ℕ) → 2 ^ 23 ≤ q → length (down q) ≡ 5
down_long q large = grind (arith, common_steps)

-- the first ten rows move down by three bytes, the others by four
down_length : (r : ℕ) → length (down ((r + 1) * 786432)) + min (suc r) 10 ≡ 5 + min r 10
down_length r =
    elim (cases_lt r 10) [
      | inl few ↦ omega (arith, down_short ((r + 1) * 786432) (omega arith))
      | inr many ↦ omega (arith, down_long ((r + 1) * 786432) (omega arith))
    ]

row_length : (r s : ℕ) → length (row r s) + min (suc r) 10 ≡ 91 + min r 10
unfolding row
row_length r s = simp length-append (omega (arith, words_length 6 s, down_length r))

rows_length : (n s : ℕ) → length (rows n s) + min n 10 ≡ n * 91
unfolding rows
rows_length zero s = refl
rows_length (suc n) s = simp length-append (omega (arith, rows_length n s, row_length n (after (n * 60) s)))

-- page i, of which the first defines the font
page_length : (i before s : ℕ) → length (page i before s) ≡ 3686 + length (if nat_eq i 1 then definition else [])
unfolding page no_counts
page_length i before s = simp length-append (omega (arith, rows_length 40 s))

no_definition : (i : ℕ) → 2 ≤ i → length (if nat_eq i 1 then definition else []) ≡ 0
no_definition i later = grind (arith, common_steps)

one_page_more : (n : ℕ) → length (first_pages (suc n)) ≡ length (first_pages n) + length (page (suc n) (back n) (after (n * 2400) 1))
unfolding first_pages
one_page_more n = length-append (first_pages n) (page (suc n) (back n) (after (n * 2400) 1))

no_page : length (first_pages 0) ≡ 0
unfolding first_pages
no_page = refl

pages_length : (n : ℕ) → length (first_pages n) + 15 ≡ place n
pages_length zero = omega (arith, no_page)
pages_length (suc zero) = omega (arith, no_page, one_page_more 0, page_length 1 (back 0) (after (0 * 2400) 1))
pages_length (suc (suc n)) =
    omega (
      arith,
      pages_length (suc n),
      one_page_more (suc n),
      page_length (suc (suc n)) (back (suc n)) (after (suc n * 2400) 1),
      no_definition (suc (suc n)) (omega arith),
    )

pub place_of_page : (n : ℕ) → length (before_page n) ≡ place n
place_of_page n = simp length-append (omega (arith, pages_length n))

pub length_of_document : (n : ℕ) → length (document n) ≡ place n + 58
length_of_document n = simp length-append (omega (arith, pages_length n))

pub length_of_widths : length tfm ≡ 176
unfolding infos widths
length_of_widths = refl

raster_length : (i n : ℕ) → length (raster i n) ≡ n
unfolding raster
raster_length i zero = refl
raster_length i (suc n) = omega (arith, length-append {A = ℕ}, raster_length i n)

glyph_length : (i : ℕ) → length (glyph i) ≡ bytes i + 11
unfolding glyph
glyph_length i = omega (arith, length-append {A = ℕ}, raster_length i (bytes i))

pub length_of_bitmaps : length pk ≡ 572
unfolding glyphs glyph raster octet
length_of_bitmaps = refl
