-- One more of each thing that the files have many of, and the generator's steps added up.
use Rattle.std.proofs.Common.{◌≡◌, ℕ, zero, suc, ◌+◌, ◌*◌, [], ◌∷◌, ◌++◌, refl, ap, ◌∙◌, arith, add-one, zero-add, suc-add, List, append_assoc}
use Rattle.std.proofs.lemmas.List.{append-nil}
use Rattle.sample_files.specs.Letters.{after, code_of, codes, next}
use Rattle.sample_files.specs.Commands.{four, right}
use Rattle.sample_files.specs.Pages.{row, rows, words, page}
use Rattle.sample_files.specs.Document.{back, first_pages}
use Rattle.sample_files.specs.Widths.{infos, width, widths}
use Rattle.sample_files.specs.Bitmaps.{glyph, glyphs, octet, raster}

pub after_more : (n s : ℕ) → after (n + 1) s ≡ next (after n s)
unfolding after
after_more n s = rw add-one refl

pub codes_more : (n s : ℕ) → codes (n + 1) s ≡ codes n s ++ code_of (next (after n s)) ∷ []
unfolding after codes
codes_more n s = rw add-one refl

-- k steps behind n steps
pub after_after : (k n s : ℕ) → after k (after n s) ≡ after (k + n) s
unfolding after
after_after zero n s = rw zero-add refl
after_after (suc k) n s = rw suc-add (ap next (after_after k n s))

-- k steps behind n times k steps
pub after_turn : (k n s : ℕ) → after k (after (n * k) s) ≡ after ((n + 1) * k) s
after_turn k n s = after_after k (n * k) s ∙ ap (λ m. after m s) (omega arith)

pub words_more : (n s : ℕ) → words (n + 1) s ≡ words n s ++ (codes 10 (after (n * 10) s) ++ right 218453)
unfolding words
words_more n s = rw add-one refl

pub rows_more : (n s : ℕ) → rows (n + 1) s ≡ rows n s ++ row n (after (n * 60) s)
unfolding rows
rows_more n s = rw add-one refl

pub pages_more : (n : ℕ) → first_pages (n + 1) ≡ first_pages n ++ page (n + 1) (back n) (after (n * 2400) 1)
unfolding first_pages
pages_more n = rw add-one refl

pub infos_more : (n : ℕ) → infos (n + 1) ≡ infos n ++ (n + 1) ∷ 0 ∷ 0 ∷ 0 ∷ []
unfolding infos
infos_more n = rw add-one refl

pub widths_more : (n : ℕ) → widths (n + 1) ≡ widths n ++ four (width n)
unfolding widths
widths_more n = rw add-one refl

pub raster_more : (i n : ℕ) → raster i (n + 1) ≡ raster i n ++ octet i (8 * n) ∷ []
unfolding raster
raster_more i n = rw add-one refl

pub glyphs_more : (n : ℕ) → glyphs (n + 1) ≡ glyphs n ++ glyph n
unfolding glyphs
glyphs_more n = rw add-one refl

-- none of each
pub after_none : (s : ℕ) → after 0 s ≡ s
unfolding after
after_none s = refl

pub codes_none : (s : ℕ) → codes 0 s ≡ []
unfolding codes
codes_none s = refl

pub words_none : (s : ℕ) → words 0 s ≡ []
unfolding words
words_none s = refl

pub rows_none : (s : ℕ) → rows 0 s ≡ []
unfolding rows
rows_none s = refl

pub pages_none : first_pages 0 ≡ []
unfolding first_pages
pages_none = refl

pub infos_none : infos 0 ≡ []
unfolding infos
infos_none = refl

pub widths_none : widths 0 ≡ []
unfolding widths
widths_none = refl

pub raster_none : (i : ℕ) → raster i 0 ≡ []
unfolding raster
raster_none i = refl

pub glyphs_none : glyphs 0 ≡ []
unfolding glyphs
glyphs_none = refl

-- a loop begins with none of what it appends, and goes on by one more
pub begun : (old none : List ℕ) → none ≡ [] → old ≡ old ++ none
begun old none is = rw (is, append-nil) refl

pub grown : (old done more whole now next : List ℕ) → now ≡ old ++ done → next ≡ now ++ more → whole ≡ done ++ more → next ≡ old ++ whole
grown old done more whole now next is_now is_next is_whole = let e = append_assoc old done more in cc
