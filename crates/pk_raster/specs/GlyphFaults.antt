-- What stands in a packet that draws no glyph.
use Rattle.std.specs.Prelude.{◌≡◌, ◌≢◌, ℕ, List, ◌*◌, ◌<◌, ◌≤◌, ◌⊎◌, length}
use Rattle.bit_lanes.specs.Bits.{bits}
use Rattle.pk_raster.specs.Numbers.{nybbles}
use Rattle.pk_raster.specs.Raster.{FaultIs, PlainFaultIs}
use Rattle.pk_raster.specs.Parts.{Packet}
use Rattle.pk_raster.specs.Font.{Known}
use Rattle.pk_raster.specs.Glyph.{IsGlyph, width, height, raster, dyn_f, sizes_len, bitmap_bytes}
use Rattle.pk_raster.specs.declared.board.RasterFault.{RasterFault}
use Rattle.pk_raster.specs.declared.board.RasterFault.TheVariants as raster_fault
use Rattle.pk_raster.specs.declared.fault.PkFault.{PkFault}
use Rattle.pk_raster.specs.declared.fault.PkFault.TheVariants as fault

-- What stands in the raster of a glyph without pixels.
abbrev pub BlankFaultIs : List ℕ → RasterFault → Type 0
BlankFaultIs given raster_fault.BadLength = 0 < length given
BlankFaultIs given raster_fault.RunsShort = ⊥
BlankFaultIs given raster_fault.RunsPast = ⊥
BlankFaultIs given raster_fault.RepeatTwice = ⊥
BlankFaultIs given raster_fault.OutOfMemory = Unit {0}

-- What stands in a raster that doesn't draw h rows of w pixels.
pub record RowsFaultIs (flag w h : ℕ) (given : List ℕ) (e : RasterFault) : Type 0 where
  pub blank : h * w ≡ 0 → BlankFaultIs given e
  pub plain : 0 < h * w → dyn_f flag ≡ 14 → PlainFaultIs w h (bits given) e
  pub runs : 0 < h * w → dyn_f flag ≢ 14 → FaultIs (dyn_f flag) w h (nybbles given) e

-- The fault of the file, where a raster of this code fails.
abbrev pub pk_fault : RasterFault → ℕ → PkFault
pk_fault raster_fault.RunsShort code = fault.RunsShort code
pk_fault raster_fault.RunsPast code = fault.RunsPast code
pk_fault raster_fault.RepeatTwice code = fault.RepeatTwice code
pk_fault raster_fault.BadLength code = fault.BadLength code
pk_fault raster_fault.OutOfMemory code = fault.OutOfMemory

-- The packet has a bitmap to be kept, and its raster fails in this way.
pub record RasterFails (p : Packet) (e : RasterFault) : Type 0 where
  pub sizes : sizes_len p.flag ≤ length p.content
  pub small : bitmap_bytes (width p.flag p.content) (height p.flag p.content) ≤ 65535
  pub fails : RowsFaultIs p.flag (width p.flag p.content) (height p.flag p.content) (raster p.flag p.content) e

-- What stands in the packet where it is refused: its sizes don't fit the length that it gives, or its raster fails.
abbrev pub PacketFaultIs : Packet → PkFault → Type 0
PacketFaultIs p (fault.BadLength c) = (c ≡ p.code) × ((length p.content < sizes_len p.flag) ⊎ RasterFails p raster_fault.BadLength)
PacketFaultIs p (fault.RunsShort c) = (c ≡ p.code) × RasterFails p raster_fault.RunsShort
PacketFaultIs p (fault.RunsPast c) = (c ≡ p.code) × RasterFails p raster_fault.RunsPast
PacketFaultIs p (fault.RepeatTwice c) = (c ≡ p.code) × RasterFails p raster_fault.RepeatTwice
PacketFaultIs p fault.OutOfMemory = Unit {0}
PacketFaultIs p fault.BadPreamble = ⊥
PacketFaultIs p (fault.Undefined at) = ⊥
PacketFaultIs p (fault.Short at) = ⊥
PacketFaultIs p fault.NoPost = ⊥
PacketFaultIs p (fault.Twice c) = ⊥
PacketFaultIs p fault.Space = ⊥

-- Why a packet is refused, and that it has no glyph.
pub record RefusesPacket (p : Packet) (e : PkFault) : Type 0 where
  pub says : PacketFaultIs p e
  pub none : e ≢ fault.OutOfMemory → (known : Known) → IsGlyph p known → ⊥
