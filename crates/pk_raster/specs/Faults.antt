-- What stands in the bytes where a PK file is refused.
use Rattle.std.specs.Prelude.{◌≡◌, ◌≢◌, ℕ, List, [], ◌∷◌, ◌++◌, ◌+◌, ◌<◌, ◌≤◌, ◌⊎◌, length, drop, slice_index}
use Rattle.pk_raster.specs.Font.{Font, Known, size, glyph_at, known_bytes}
use Rattle.pk_raster.specs.Font.Known.{Nothing}
use Rattle.pk_raster.specs.Parts.{Packet, Part, Parts}
use Rattle.pk_raster.specs.Parts.Part.{Character}
use Rattle.pk_raster.specs.Glyph.{IsGlyph}
use Rattle.pk_raster.specs.File.{HasPreamble, body_at, characters, times, Tells, IsPk, checksum_of}
use Rattle.pk_raster.specs.PartFaults.{IsUndefinedAt, IsShortAt}
use Rattle.pk_raster.specs.GlyphFaults.{PacketFaultIs, RefusesPacket}
use Rattle.pk_raster.specs.declared.fault.PkFault.{PkFault}
use Rattle.pk_raster.specs.declared.fault.PkFault.TheVariants as fault

-- The parts of the body up to a place.
pub record ReadTo (bytes : List ℕ) (parts : List Part) (at : ℕ) : Type 0 where
  pub preamble : HasPreamble bytes
  pub within : at ≤ length bytes
  pub read : Parts (drop (body_at bytes) bytes) parts (drop at bytes)

-- Behind the 245 that ends the body stands a byte that isn't 246.
pub record IsAfterPost (bytes : List ℕ) (at : ℕ) : Type 0 where
  pub parts : List Part
  pub post : ℕ
  pub read : ReadTo bytes parts post
  pub ends : slice_index bytes post ≡ 245
  pub behind : post < at
  pub here : at < length bytes
  pub other : slice_index bytes at ≢ 246

-- A packet of the body is refused with this fault.
pub record HasBadPacket (bytes : List ℕ) (e : PkFault) : Type 0 where
  pub parts : List Part
  pub packet : Packet
  pub at : ℕ
  pub read : ReadTo bytes (parts ++ Character packet ∷ []) at
  pub fails : PacketFaultIs packet e

abbrev pub PkFaultIs : List ℕ → ℕ → PkFault → Type 0
PkFaultIs bytes most fault.BadPreamble = HasPreamble bytes → ⊥
PkFaultIs bytes most (fault.Undefined at) = ((parts : List Part) × ReadTo bytes parts at × IsUndefinedAt bytes at) ⊎ IsAfterPost bytes at
PkFaultIs bytes most (fault.Short at) = (parts : List Part) × ReadTo bytes parts at × IsShortAt bytes at
PkFaultIs bytes most fault.NoPost = (parts : List Part) × ReadTo bytes parts (length bytes)
PkFaultIs bytes most (fault.Twice c) = (parts : List Part) × (at : ℕ) × ReadTo bytes parts at × (1 < times c (characters parts))
PkFaultIs bytes most (fault.BadLength c) = HasBadPacket bytes (fault.BadLength c)
PkFaultIs bytes most (fault.RunsShort c) = HasBadPacket bytes (fault.RunsShort c)
PkFaultIs bytes most (fault.RunsPast c) = HasBadPacket bytes (fault.RunsPast c)
PkFaultIs bytes most (fault.RepeatTwice c) = HasBadPacket bytes (fault.RepeatTwice c)
PkFaultIs bytes most fault.Space = (parts : List Part) × (at : ℕ) × (font : Font) × ReadTo bytes parts at × Tells font (characters parts) × (most < size font)
PkFaultIs bytes most fault.OutOfMemory = Unit {0}

-- The font tells the parts up to a place, and its bitmaps fit.
pub record ReadSo (bytes : List ℕ) (most : ℕ) (font : Font) (at : ℕ) : Type 0 where
  pub parts : List Part
  pub read : ReadTo bytes parts at
  pub checksum : font.checksum ≡ checksum_of bytes
  pub glyphs : Tells font (characters parts)
  pub fits : size font ≤ most

-- The bytes are no PK file whose bitmaps fit.
abbrev pub NoFont : List ℕ → ℕ → Type 0
NoFont bytes most = (font : Font) → IsPk bytes font → size font ≤ most → ⊥

-- Why the bytes are refused, and that they are no PK file whose bitmaps fit.
pub record RefusesFile (bytes : List ℕ) (most : ℕ) (e : PkFault) : Type 0 where
  pub says : PkFaultIs bytes most e
  pub none : e ≢ fault.OutOfMemory → NoFont bytes most

-- The packet isn't taken into the font: its code has a glyph, or it has none itself, or with it the bitmaps pass `most`.
abbrev pub IsNotAdded : Font → ℕ → Packet → PkFault → Type 0
IsNotAdded font most p (fault.Twice c) = (c ≡ p.code) × (glyph_at font p.code ≢ Nothing)
IsNotAdded font most p fault.Space = (known : Known) × IsGlyph p known × (glyph_at font p.code ≡ Nothing) × (most < size font + known_bytes known)
IsNotAdded font most p (fault.BadLength c) = RefusesPacket p (fault.BadLength c)
IsNotAdded font most p (fault.RunsShort c) = RefusesPacket p (fault.RunsShort c)
IsNotAdded font most p (fault.RunsPast c) = RefusesPacket p (fault.RunsPast c)
IsNotAdded font most p (fault.RepeatTwice c) = RefusesPacket p (fault.RepeatTwice c)
IsNotAdded font most p fault.OutOfMemory = Unit {0}
IsNotAdded font most p fault.BadPreamble = ⊥
IsNotAdded font most p (fault.Undefined at) = ⊥
IsNotAdded font most p (fault.Short at) = ⊥
IsNotAdded font most p fault.NoPost = ⊥

-- What the reader of the tail answers: behind the 245 at `post` stands another byte than 246, or there is no 245.
abbrev pub IsBadTail : List ℕ → ℕ → PkFault → Type 0
IsBadTail bytes post (fault.Undefined at) = (post < at) × (at < length bytes) × (slice_index bytes at ≢ 246)
IsBadTail bytes post fault.NoPost = length bytes ≤ post
IsBadTail bytes post fault.BadPreamble = ⊥
IsBadTail bytes post (fault.Short at) = ⊥
IsBadTail bytes post (fault.Twice c) = ⊥
IsBadTail bytes post (fault.BadLength c) = ⊥
IsBadTail bytes post (fault.RunsShort c) = ⊥
IsBadTail bytes post (fault.RunsPast c) = ⊥
IsBadTail bytes post (fault.RepeatTwice c) = ⊥
IsBadTail bytes post fault.Space = ⊥
IsBadTail bytes post fault.OutOfMemory = ⊥

-- Behind the place stand only bytes 246.
abbrev pub OnlyNops : List ℕ → ℕ → Type 0
OnlyNops bytes post = (i : ℕ) → post < i → i < length bytes → slice_index bytes i ≡ 246
