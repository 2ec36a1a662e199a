-- What a PK file tells: its checksum, and for each code up to 255 nothing, a size alone, or a bitmap.
use Rattle.std.specs.Prelude.{ℕ, ℤ, List, length, slice_index_or}
use Rattle.std.specs.List.{sum_by}

-- w pixels wide and h high. hoff and voff lead from the upper left pixel to the reference pixel, right and down positive.
-- `rows` has the bytes of the h rows, each row padded to whole bytes by bits 0.
pub record Bitmap : Type 0 where
  pub w : ℕ
  pub h : ℕ
  pub hoff : ℤ
  pub voff : ℤ
  pub rows : List ℕ

-- What a font tells of a code. A bitmap of more than 65,535 bytes isn't kept, and its size alone is told.
pub data Known : Type 0 where
  Nothing : Known
  Large : (bytes : ℕ) → Known
  Bits : (bitmap : Bitmap) → Known

pub record Font : Type 0 where
  pub checksum : ℕ
  pub glyphs : List Known

-- What the font tells of a code.
abbrev pub glyph_at : Font → ℕ → Known
glyph_at font code = slice_index_or font.glyphs code Nothing

-- How many bytes of rows are kept for a code.
abbrev pub known_bytes : Known → ℕ
known_bytes Nothing = 0
known_bytes (Large bytes) = 0
known_bytes (Bits bitmap) = length bitmap.rows

-- The bytes of all bitmaps that are kept.
abbrev pub size : Font → ℕ
size font = sum_by known_bytes font.glyphs
