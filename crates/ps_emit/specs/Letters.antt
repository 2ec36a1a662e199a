-- The fonts of a section: of each font that its pages use, the characters that they use, each with the bitmap that the font's files give.
use Rattle.std.specs.Prelude.{ℕ, ℤ, Bool, List, [], ◌∷◌, length, Option, Some, None}
use Rattle.pk_raster.specs.Font.{Bitmap}
use Rattle.font_set.specs.Fonts.{FontSet, bitmap_at, pixels_at}
use Rattle.sections.specs.Below.{any_below, those_below}
use Rattle.ps_subset.specs.Fonts.{Glyph, Letter, Font}

-- a bitmap as a glyph of the text, which moves on by so many pixels
abbrev pub glyph_of : Bitmap → ℤ → Glyph
glyph_of b width = record { columns = b.w; rows = b.h; hoff = b.hoff; voff = b.voff; bytes = b.rows; width = width }

abbrev pub letter_by : ℕ → Option Bitmap → Option ℤ → Option Letter
letter_by code None width = None
letter_by code (Some b) None = None
letter_by code (Some b) (Some width) = Some (record { code = code; glyph = glyph_of b width })

-- a character as a letter of the text, where its font has a width and a bitmap for it
unfoldable pub letter_at : FontSet → ℕ → ℕ → Option Letter
letter_at set id code = letter_by code (bitmap_at set id code) (pixels_at set id code)

-- the letter, where there is one, before others
abbrev pub put_letter : Option Letter → List Letter → List Letter
put_letter None ls = ls
put_letter (Some l) ls = l ∷ ls

-- the letters of these codes of a font
abbrev pub letters_of : FontSet → ℕ → List ℕ → List Letter
letters_of set id [] = []
letters_of set id (c ∷ cs) = put_letter (letter_at set id c) (letters_of set id cs)

-- the codes that are used, from the least up
abbrev pub used_codes : (ℕ → Bool) → List ℕ
used_codes used = those_below used 256

-- a font with the letters that are used of it
abbrev pub font_of : FontSet → (ℕ → ℕ → Bool) → ℕ → Font
font_of set used id = record { id = id; letters = letters_of set id (used_codes (used id)) }

abbrev pub some_fonts : FontSet → (ℕ → ℕ → Bool) → List ℕ → List Font
some_fonts set used [] = []
some_fonts set used (id ∷ ids) = font_of set used id ∷ some_fonts set used ids

-- the fonts of which a character is used, by their numbers
abbrev pub used_fonts : FontSet → (ℕ → ℕ → Bool) → List ℕ
used_fonts set used = those_below (λ id. any_below (used id) 256) (length set.fonts)

-- these fonts, with the letters that are used of each
abbrev pub fonts_used : FontSet → (ℕ → ℕ → Bool) → List Font
fonts_used set used = some_fonts set used (used_fonts set used)
