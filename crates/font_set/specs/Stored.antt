-- How a set is stored, and what holds of its fonts.
use Rattle.std.specs.Prelude.{◌≡◌, ◌<◌, ◌≤◌, ◌<ℤ◌, ◌≤ℤ◌, ◌^◌, ℕ, ℤ, pos, List, map, length, Option, None, Some, unsigned_abs}
use Rattle.std.specs.List.{AllByRecursion}
use Rattle.dv_base.specs.declared.units.Units.{Units}
use Rattle.dv_base.specs.FontName.{IsFontName}
use Rattle.dv_base.specs.UnitPixels.{IsUsable}
use Rattle.dvi_doc.specs.declared.font.FontKey.{FontKey}
use Rattle.tfm_widths.specs.Widths.{Table, width_in}
use Rattle.vf_packets.specs.Font.{LocalFont, VirtualFont, Apart, packet_of}
use Rattle.font_set.specs.Key.{IsKey}
use Rattle.font_set.specs.Fonts.{State, Entry, raster_bytes}
use Rattle.font_set.specs.Views.{key_of}
use Rattle.pk_raster.specs.Font as pk_font
use Rattle.pk_raster.specs.Font.{Bitmap, glyph_at}
use Rattle.pk_raster.specs.Font.Known.{Bits}
use Rattle.pk_raster.specs.Laws.{AreRows}
use Rattle.font_set.specs.declared.font.Font.{Font}
use Rattle.font_set.specs.declared.font.Font.TheVariants as font
use Rattle.font_set.specs.declared.want.Want.{Want}
use Rattle.font_set.specs.declared.want.Want.TheVariants as wants

abbrev pub state_of : Font → State
state_of font.Known = State.Known
state_of (font.Real tfm pk) = State.Real tfm pk
state_of (font.Virtual tfm vf) = State.Virtual tfm vf

abbrev pub entry_of : FontKey × Font → Entry
entry_of p = record { key = key_of p.0; state = state_of p.1 }

abbrev pub entries_of : List (FontKey × Font) → List Entry
entries_of ps = map entry_of ps

-- The units of a document that can be turned into pixels, as `Conv::new` asks for them.
pub record AreUnits (units : Units) : Type 0 where
  pub usable : IsUsable units
  pub num : units.num <ℤ pos (2 ^ 31)
  pub den : units.den <ℤ pos (2 ^ 31)
  pub mag : units.mag <ℤ pos (2 ^ 31)
  pub dpi : units.dpi ≤ℤ pos 10000

-- a width of a TFM file is at most 16 times the size
abbrev pub IsFine : Option ℤ → Type 0
IsFine None = Unit {0}
IsFine (Some fix) = unsigned_abs fix ≤ 2 ^ 24

-- Each packet is no longer than its file, and the local fonts have numbers of their own and names of fonts.
pub record IsFit (vf : VirtualFont) : Type 0 where
  pub short : (code : ℕ) (bytes : List ℕ) → packet_of vf code ≡ Some bytes → length bytes ≤ 4194304
  pub apart : Apart vf.locals
  pub named : AllByRecursion (λ (l : LocalFont). IsFontName l.name) vf.locals

abbrev pub AreFine : Table → Type 0
AreFine tfm = (code : ℕ) → code < 256 → IsFine (width_in tfm code)

-- Each bitmap has whole rows, where there are bitmaps.
abbrev pub AreDrawn : Option pk_font.Font → Type 0
AreDrawn None = Unit {0}
AreDrawn (Some pk) = (code : ℕ) (bitmap : Bitmap) → glyph_at pk code ≡ Bits bitmap → AreRows bitmap

abbrev pub IsSound : State → Type 0
IsSound State.Known = Unit {0}
IsSound (State.Real tfm pk) = AreFine tfm × AreDrawn pk
IsSound (State.Virtual tfm vf) = AreFine tfm × IsFit vf

pub record IsStored (e : Entry) : Type 0 where
  pub key : IsKey e.key
  pub sound : IsSound e.state

-- where bitmaps are wanted, a real font has them
abbrev pub HasWanted : Want → State → Type 0
HasWanted wants.Rasters (State.Real tfm None) = ⊥
HasWanted want state = Unit {0}

abbrev pub HaveWanted : Want → List Entry → Type 0
HaveWanted want es = AllByRecursion (λ (e : Entry). HasWanted want e.state) es

-- The fonts of a set: not more than there are ids, each as it should be, and their bitmaps within the limit.
pub record AreStored (es : List Entry) : Type 0 where
  pub few : length es ≤ 1000
  pub each : AllByRecursion IsStored es
  pub room : raster_bytes es ≤ 2 ^ 30
