-- The PK file of the font at 300 dots an inch (PK format): sixteen bitmaps of twelve rows, as plain bits.
use Rattle.std.specs.Prelude.{ℕ, zero, suc, ◌+◌, ◌*◌, ◌/◌, ◌%◌, Bool, List, [], ◌∷◌, ◌++◌, ◌&&◌, nat_eq, nat_lt, if◌then◌else◌}
use Rattle.std.specs.Int.{bytes_high_first}
use Rattle.sample_files.specs.Commands.{four}
use Rattle.sample_files.specs.Widths.{width}

-- the pixels in a row of glyph i, and the bytes of its twelve rows
abbrev pub columns : ℕ → ℕ
columns i = 8 + i

abbrev pub bytes : ℕ → ℕ
bytes i = (12 * columns i + 7) / 8

-- whether the pixel of a row and a column is black
abbrev pub is_black : (i row column : ℕ) → Bool
is_black i row column = nat_eq ((row + column) % (i + 2)) 0

-- pixel p of the rows, joined without gaps: 1 where it is black; 0 behind the last row
abbrev pub pixel : ℕ → ℕ → ℕ
pixel i p = if nat_lt p (12 * columns i) && is_black i (p / columns i) (p % columns i) then 1 else 0

-- the eight pixels from p on, as a byte: the first is its highest bit
unfoldable pub octet : ℕ → ℕ → ℕ
octet i p =
    128 * pixel i p + 64 * pixel i (p + 1) + 32 * pixel i (p + 2) + 16 * pixel i (p + 3)
    + 8 * pixel i (p + 4) + 4 * pixel i (p + 5) + 2 * pixel i (p + 6) + pixel i (p + 7)

-- the first n bytes of the rows
unfoldable pub raster : ℕ → ℕ → List ℕ
raster i zero = []
raster i (suc n) = raster i n ++ octet i (8 * n) ∷ []

-- The width of a character in pixels, to the nearest one: ten points have 655,360 scaled points, an inch 4,736,286.72.
abbrev pub pixels_across : ℕ → ℕ
pixels_across i = ((327680 + 10240 * i) * 30000 + 236814336) / 473628672

-- What stands before the rows: the flag of plain bits in the short form, how many bytes follow the code, the code, the width as a fix_word
-- and in pixels, columns and rows, and the way from the upper left pixel to the reference pixel.
abbrev pub head : ℕ → ℕ → List ℕ
head i n =
    224 ∷ (8 + n) ∷ (65 + i) ∷ [] ++ bytes_high_first 3 (width i) ++ pixels_across i ∷ columns i ∷ 12 ∷ 0 ∷ 11 ∷ []

unfoldable pub glyph : ℕ → List ℕ
glyph i = head i (bytes i) ++ raster i (bytes i)

-- the first n glyphs
unfoldable pub glyphs : ℕ → List ℕ
glyphs zero = []
glyphs (suc n) = glyphs n ++ glyph n

-- The preamble: no comment, ten points as a fix_word, check sum 0, and 300 dots an inch, which are 272,046 parts of 65,536 of a pixel a
-- point, across and down.
abbrev pub preamble : List ℕ
preamble = 247 ∷ 89 ∷ 0 ∷ [] ++ four (10 * 1048576) ++ four 0 ++ four 272046 ++ four 272046

-- the file
abbrev pub pk : List ℕ
pk = preamble ++ glyphs 16 ++ 245 ∷ []
