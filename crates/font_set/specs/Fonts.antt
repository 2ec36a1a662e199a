-- A set of fonts. A font is known by its key, and loaded once its files are read.
use Rattle.std.specs.Prelude.{◌≢◌, ℕ, ℤ, pos, ◌/◌, ◌⊎◌, List, [], ◌∷◌, ◌++◌, Option, Some, None, position, slice_get}
use Rattle.std.specs.List.{sum_by}
use Rattle.dv_base.specs.declared.units.Units.{Units}
use Rattle.dv_base.specs.Scale.{scaled}
use Rattle.dv_base.specs.Rounding.{rounded}
use Rattle.dv_base.specs.UnitPixels.{pixels_of_one}
use Rattle.tfm_widths.specs.Widths.{Table, width_in}
use Rattle.vf_packets.specs.Font.{VirtualFont, packet_of}
use Rattle.pk_raster.specs.Font.{Font, Bitmap, Known as Glyph, glyph_at, size}
use Rattle.pk_raster.specs.Font.Known.{Nothing, Large, Bits}
use Rattle.font_set.specs.Key.{Key, same_key, blank_key}
use Rattle.font_set.specs.declared.want.Want.{Want}

-- What a font's files tell: of a real font its TFM file and, where bitmaps are wanted, its PK file; of a virtual font its TFM file
-- and its VF file.
pub data State : Type 0 where
  Known : State
  Real : (tfm : Table) (pk : Option Font) → State
  Virtual : (tfm : Table) (vf : VirtualFont) → State

pub record Entry : Type 0 where
  pub key : Key
  pub state : State

-- The fonts by their numbers, 0 the first, the units of the document, and what the fonts are for.
pub record FontSet : Type 0 where
  pub units : Units
  pub want : Want
  pub fonts : List Entry

-- ---- keys and ids

-- the id of a key: its place
unfoldable pub place_of : List Entry → Key → Option ℕ
place_of es k = position (λ e. same_key k e.key) es

abbrev pub learn_by : Option ℕ → List Entry → Key → List Entry
learn_by None es k = es ++ record { key = k; state = State.Known } ∷ []
learn_by (Some i) es k = es

-- a key that is known stays, and a new one goes last
unfoldable pub learn : List Entry → Key → List Entry
learn es k = learn_by (place_of es k) es k

-- ---- what is known of a font

abbrev pub size_in : Option Entry → ℕ
size_in None = 0
size_in (Some e) = e.key.size

abbrev pub state_in : Option Entry → State
state_in None = State.Known
state_in (Some e) = e.state

abbrev pub entry_key : Option Entry → Key
entry_key None = blank_key
entry_key (Some e) = e.key

-- the key of an id, a blank one where there is none
unfoldable pub key_at : FontSet → ℕ → Key
key_at set id = entry_key (slice_get set.fonts id)

-- the size of a font, 0 where there is none
unfoldable pub size_at : FontSet → ℕ → ℕ
size_at set id = size_in (slice_get set.fonts id)

unfoldable pub state_at : FontSet → ℕ → State
state_at set id = state_in (slice_get set.fonts id)

-- the space of a font, a sixth of its size
abbrev pub space_at : FontSet → ℕ → ℤ
space_at set id = pos (size_at set id / 6)

-- ---- characters

-- the width that a table tells of a code, at a size
abbrev pub width_by : ℕ → Option ℤ → Option ℤ
width_by size None = None
width_by size (Some fix) = Some (scaled size fix)

abbrev pub fix_word_in : State → ℕ → Option ℤ
fix_word_in State.Known code = None
fix_word_in (State.Real tfm pk) code = width_in tfm code
fix_word_in (State.Virtual tfm vf) code = width_in tfm code

abbrev pub width_of : ℕ → State → ℕ → Option ℤ
width_of size state code = width_by size (fix_word_in state code)

-- the width of a character in DVI units
unfoldable pub width_at : FontSet → ℕ → ℕ → Option ℤ
width_at set id code = width_of (size_at set id) (state_at set id) code

abbrev pub rounded_by : Units → Option ℤ → Option ℤ
rounded_by units None = None
rounded_by units (Some width) = Some (rounded (pixels_of_one units) width)

-- the width in pixels, rounded
unfoldable pub pixels_at : FontSet → ℕ → ℕ → Option ℤ
pixels_at set id code = rounded_by set.units (width_at set id code)

abbrev pub vf_in : State → Option VirtualFont
vf_in State.Known = None
vf_in (State.Real tfm pk) = None
vf_in (State.Virtual tfm vf) = Some vf

abbrev pub pk_in : State → Option Font
pk_in State.Known = None
pk_in (State.Real tfm pk) = pk
pk_in (State.Virtual tfm vf) = None

abbrev pub packet_by : Option VirtualFont → ℕ → Option (List ℕ)
packet_by None code = None
packet_by (Some vf) code = packet_of vf code

abbrev pub packet_in : State → ℕ → Option (List ℕ)
packet_in state code = packet_by (vf_in state) code

-- the bytes of a character's packet
unfoldable pub packet_at : FontSet → ℕ → ℕ → Option (List ℕ)
packet_at set id code = packet_in (state_at set id) code

abbrev pub kept_bitmap : Glyph → Option Bitmap
kept_bitmap Nothing = None
kept_bitmap (Large bytes) = None
kept_bitmap (Bits bitmap) = Some bitmap

abbrev pub bitmap_by : Option Font → ℕ → Option Bitmap
bitmap_by None code = None
bitmap_by (Some pk) code = kept_bitmap (glyph_at pk code)

-- the bitmap of a character, where it is within the limit
unfoldable pub bitmap_at : FontSet → ℕ → ℕ → Option Bitmap
bitmap_at set id code = bitmap_by (pk_in (state_at set id)) code

-- ---- kinds

abbrev pub IsVirtual : State → Type 0
IsVirtual State.Known = ⊥
IsVirtual (State.Real tfm pk) = ⊥
IsVirtual (State.Virtual tfm vf) = Unit {0}

abbrev pub IsLoaded : State → Type 0
IsLoaded State.Known = ⊥
IsLoaded (State.Real tfm pk) = Unit {0}
IsLoaded (State.Virtual tfm vf) = Unit {0}

-- ---- checksums

-- two checksums are both told, and differ; 0 tells nothing
abbrev pub Differ : ℕ → ℕ → Type 0
Differ a b = (a ≢ 0) × (b ≢ 0) × (a ≢ b)

abbrev pub PkDiffers : Table → Option Font → Type 0
PkDiffers tfm None = ⊥
PkDiffers tfm (Some pk) = Differ tfm.checksum pk.checksum

abbrev pub Mismatches : ℕ → State → Type 0
Mismatches key State.Known = ⊥
Mismatches key (State.Real tfm pk) = Differ key tfm.checksum ⊎ PkDiffers tfm pk
Mismatches key (State.Virtual tfm vf) = Differ key tfm.checksum ⊎ Differ tfm.checksum vf.checksum

-- the font is loaded, and the checksums of its key and its files don't agree
abbrev pub IsMismatched : FontSet → ℕ → Type 0
IsMismatched set id = Mismatches (key_at set id).checksum (state_at set id)

-- ---- bitmaps

-- the bytes of the bitmaps that are kept of a font, and of all fonts
abbrev pub raster_bytes_by : Option Font → ℕ
raster_bytes_by None = 0
raster_bytes_by (Some pk) = size pk

abbrev pub raster_bytes_in : State → ℕ
raster_bytes_in State.Known = 0
raster_bytes_in (State.Real tfm pk) = raster_bytes_by pk
raster_bytes_in (State.Virtual tfm vf) = 0

unfoldable pub raster_bytes : List Entry → ℕ
raster_bytes es = sum_by (λ (e : Entry). raster_bytes_in e.state) es
