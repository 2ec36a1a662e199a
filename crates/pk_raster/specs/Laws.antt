-- What follows for all PK files.
use Rattle.std.specs.Prelude.{◌≡◌, ℕ, List, ◌<◌, ◌≤◌, ◌^◌, length, slice_index, unsigned_abs}
use Rattle.std.specs.List.{AllByRecursion}
use Rattle.pk_raster.specs.Font.{Font, Bitmap, glyph_at}
use Rattle.pk_raster.specs.Font.Known.{Bits}
use Rattle.pk_raster.specs.Glyph.{bitmap_bytes, Pads}
use Rattle.pk_raster.specs.File.{IsPk}

-- Bytes are a PK file of one font at most.
abbrev pub OneFont : Type 0
OneFont = (bytes : List ℕ) (font other : Font) → IsPk bytes font → IsPk bytes other → font ≡ other

-- A bitmap's bytes are h rows of w pixels, each padded by bits 0 to whole bytes, and at most 65,535. Its offsets fit 32 bits.
pub record AreRows (bitmap : Bitmap) : Type 0 where
  pub rows : List (List ℕ)
  pub height : length rows ≡ bitmap.h
  pub wide : AllByRecursion (λ row. length row ≡ bitmap.w) rows
  pub padded : Pads bitmap.w rows bitmap.rows
  pub count : length bitmap.rows ≡ bitmap_bytes bitmap.w bitmap.h
  pub bytes : (i : ℕ) → slice_index bitmap.rows i < 256
  pub short : length bitmap.rows ≤ 65535
  pub right : unsigned_abs bitmap.hoff ≤ 2 ^ 31
  pub down : unsigned_abs bitmap.voff ≤ 2 ^ 31

-- So it is with each bitmap that a PK file tells.
abbrev pub WholeRows : Type 0
WholeRows = (bytes : List ℕ) (font : Font) (code : ℕ) (bitmap : Bitmap) → IsPk bytes font → glyph_at font code ≡ Bits bitmap → AreRows bitmap
