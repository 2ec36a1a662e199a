-- What a character's packet draws.
use Rattle.std.specs.Prelude.{◌≡◌, ◌≢◌, ℕ, ℤ, List, [], ◌+◌, ◌*◌, ◌/◌, ◌%◌, ◌^◌, ◌<◌, ◌≤◌, length, drop, slice_index, replicate, unsigned_abs}
use Rattle.std.specs.List.{flat_map}
use Rattle.bit_lanes.specs.Bits.{bits}
use Rattle.pk_raster.specs.Bits.{padded}
use Rattle.pk_raster.specs.Numbers.{nybbles}
use Rattle.pk_raster.specs.Raster.{IsRaster, IsPlain}
use Rattle.pk_raster.specs.Font.{Known, Bitmap}
use Rattle.pk_raster.specs.Font.Known.{Large, Bits}
use Rattle.pk_raster.specs.Parts.{Packet, by_form}
use Rattle.dv_base.specs.Numbers.{unsigned, signed}

-- A size has one, two or four bytes. Before the sizes stand the width and the escapements.
abbrev pub size_bytes : ℕ → ℕ
size_bytes flag = by_form flag 1 2 4

abbrev pub first_size : ℕ → ℕ
first_size flag = by_form flag 4 5 12

-- The sizes: w, h, hoff and voff, of which the last two are signed. The raster follows them.
abbrev pub sizes_len : ℕ → ℕ
sizes_len flag = first_size flag + 4 * size_bytes flag

unfoldable pub width : ℕ → List ℕ → ℕ
width flag content = unsigned (first_size flag) (size_bytes flag) content

unfoldable pub height : ℕ → List ℕ → ℕ
height flag content = unsigned (first_size flag + size_bytes flag) (size_bytes flag) content

unfoldable pub right_offset : ℕ → List ℕ → ℤ
right_offset flag content = signed (first_size flag + 2 * size_bytes flag) (size_bytes flag) content

unfoldable pub down_offset : ℕ → List ℕ → ℤ
down_offset flag content = signed (first_size flag + 3 * size_bytes flag) (size_bytes flag) content

abbrev pub raster : ℕ → List ℕ → List ℕ
raster flag content = drop (sizes_len flag) content

-- The bytes of a row, and of the bitmap.
abbrev pub stride : ℕ → ℕ
stride w = (w + 7) / 8

abbrev pub bitmap_bytes : ℕ → ℕ → ℕ
bitmap_bytes w h = h * stride w

-- The flag byte's high nybble is dyn_f. The value 8 in it says that the first run is black.
abbrev pub dyn_f : ℕ → ℕ
dyn_f flag = flag / 16

abbrev pub first_colour : ℕ → ℕ
first_colour flag = flag / 8 % 2

-- The raster draws these h rows of w pixels. A glyph without pixels has no raster and h rows that are empty. With dyn_f 14
-- the raster is the pixels, else it is runs and repeat counts.
pub record Draws (flag w h : ℕ) (given : List ℕ) (rows : List (List ℕ)) : Type 0 where
  pub blank : h * w ≡ 0 → (given ≡ []) × (rows ≡ replicate h [])
  pub plain : 0 < h * w → dyn_f flag ≡ 14 → IsPlain w h (bits given) rows
  pub runs : 0 < h * w → dyn_f flag ≢ 14 → IsRaster (dyn_f flag) (first_colour flag) w h (nybbles given) rows

-- The bits of the bytes are the rows, each row padded to whole bytes.
abbrev pub Pads : ℕ → List (List ℕ) → List ℕ → Type 0
Pads w rows bytes = bits bytes ≡ flat_map (padded (8 * stride w)) rows

-- The packet's sizes and rows as a bitmap. A row is bytes, and an offset is a signed number of at most four bytes.
pub record IsBitmap (p : Packet) (bitmap : Bitmap) : Type 0 where
  pub w : bitmap.w ≡ width p.flag p.content
  pub h : bitmap.h ≡ height p.flag p.content
  pub hoff : bitmap.hoff ≡ right_offset p.flag p.content
  pub voff : bitmap.voff ≡ down_offset p.flag p.content
  pub rows : List (List ℕ)
  pub drawn : Draws p.flag (width p.flag p.content) (height p.flag p.content) (raster p.flag p.content) rows
  pub pads : Pads (width p.flag p.content) rows bitmap.rows
  pub bytes : (i : ℕ) → slice_index bitmap.rows i < 256
  pub right : unsigned_abs bitmap.hoff ≤ 2 ^ 31
  pub down : unsigned_abs bitmap.voff ≤ 2 ^ 31

-- What a font tells of a packet's code: the size alone where the bitmap has more than 65,535 bytes, and then its raster
-- may be anything; else the bitmap.
pub record IsGlyph (p : Packet) (known : Known) : Type 0 where
  pub sizes : sizes_len p.flag ≤ length p.content
  pub large : 65535 < bitmap_bytes (width p.flag p.content) (height p.flag p.content) → known ≡ Large (bitmap_bytes (width p.flag p.content) (height p.flag p.content))
  pub kept : bitmap_bytes (width p.flag p.content) (height p.flag p.content) ≤ 65535 → (bitmap : Bitmap) × (known ≡ Bits bitmap) × IsBitmap p bitmap
