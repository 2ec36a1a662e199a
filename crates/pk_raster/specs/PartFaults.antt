-- What the reader of parts answers. (Of these words public clauses cite `IsUndefinedAt` and `IsShortAt` alone.)
use Rattle.std.specs.Prelude.{◌≡◌, ℕ, List, ◌+◌, ◌<◌, ◌≤◌, length, drop, slice_index, Some}
use Rattle.pk_raster.specs.Parts.{Part, Packet, part_at, extent}
use Rattle.pk_raster.specs.Parts.Part.{Other, Character}
use Rattle.pk_raster.specs.declared.part.BodyPart.{BodyPart}
use Rattle.pk_raster.specs.declared.part.BodyPart.TheVariants as part
use Rattle.pk_raster.specs.declared.part.CharacterPacket.{CharacterPacket}
use Rattle.pk_raster.specs.declared.fault.PkFault.{PkFault}
use Rattle.pk_raster.specs.declared.fault.PkFault.TheVariants as fault

abbrev pub packet_view : CharacterPacket → Packet
packet_view p = record { flag = p.flag; code = p.code; content = p.content.now }

abbrev pub part_view : BodyPart → Part
part_view part.Other = Other
part_view (part.Character p) = Character (packet_view p)

-- A character has a character's flag byte, and no more than n bytes of sizes and raster.
abbrev pub FitsIn : ℕ → BodyPart → Type 0
FitsIn n part.Other = Unit {0}
FitsIn n (part.Character p) = (p.flag < 240) × (length p.content.now ≤ n)

-- The part at a place, and the place behind it.
pub record IsPartAt (bytes : List ℕ) (at : ℕ) (p : BodyPart) (next : ℕ) : Type 0 where
  pub further : at < next
  pub within : next ≤ length bytes
  pub found : part_at (drop at bytes) ≡ Some (part_view p, drop next bytes)

-- A flag byte stands here that begins no part and doesn't end the body.
abbrev pub IsUndefinedAt : List ℕ → ℕ → Type 0
IsUndefinedAt bytes at = (at < length bytes) × (246 < slice_index bytes at)

-- The part whose flag byte stands here runs past the end.
pub record IsShortAt (bytes : List ℕ) (at : ℕ) : Type 0 where
  pub here : at < length bytes
  pub flag : slice_index bytes at ≤ 246
  pub past : length bytes < at + 1 + extent (slice_index bytes at) (drop (at + 1) bytes)

-- Why no part is read at a place where the body doesn't end.
abbrev pub NoPartAt : List ℕ → ℕ → PkFault → Type 0
NoPartAt bytes at (fault.Undefined place) = (place ≡ at) × IsUndefinedAt bytes at
NoPartAt bytes at (fault.Short place) = (place ≡ at) × IsShortAt bytes at
NoPartAt bytes at fault.BadPreamble = ⊥
NoPartAt bytes at fault.NoPost = ⊥
NoPartAt bytes at (fault.Twice c) = ⊥
NoPartAt bytes at (fault.BadLength c) = ⊥
NoPartAt bytes at (fault.RunsShort c) = ⊥
NoPartAt bytes at (fault.RunsPast c) = ⊥
NoPartAt bytes at (fault.RepeatTwice c) = ⊥
NoPartAt bytes at fault.Space = ⊥
NoPartAt bytes at fault.OutOfMemory = ⊥
