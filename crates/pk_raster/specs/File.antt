-- PK files, id 89 (T. Rokicki, "Packed (PK) font file format", TUGboat 6:3): a preamble, a body of parts, and a tail.
use Rattle.std.specs.Prelude.{◌≡◌, ℕ, List, [], ◌∷◌, ◌+◌, ◌≤◌, length, drop, slice_index, replicate, if◌then◌else◌, nat_lt, nat_eq}
use Rattle.std.specs.List.{AllByRecursion}
use Rattle.pk_raster.specs.Font.{Font, glyph_at}
use Rattle.pk_raster.specs.Font.Known.{Nothing}
use Rattle.pk_raster.specs.Parts.{Packet, Part, Parts}
use Rattle.dv_base.specs.Numbers.{unsigned}
use Rattle.pk_raster.specs.Parts.Part.{Other, Character}
use Rattle.pk_raster.specs.Glyph.{IsGlyph}

-- The preamble is 247, 89, a comment with its length in one byte before it, and sixteen bytes: the design size, the
-- checksum and two resolutions. The body begins behind it.
abbrev pub body_at : List ℕ → ℕ
body_at bytes = 19 + slice_index bytes 2

pub record HasPreamble (bytes : List ℕ) : Type 0 where
  pub first : slice_index bytes 0 ≡ 247
  pub id : slice_index bytes 1 ≡ 89
  pub whole : body_at bytes ≤ length bytes

abbrev pub checksum_of : List ℕ → ℕ
checksum_of bytes = unsigned (7 + slice_index bytes 2) 4 bytes

-- The packets of the characters that have a code up to 255; the others are passed over.
unfoldable pub characters : List Part → List Packet
characters [] = []
characters (Other ∷ ps) = characters ps
characters (Character p ∷ ps) = if nat_lt 255 p.code then characters ps else p ∷ characters ps

-- How many of the packets have the code.
unfoldable pub times : ℕ → List Packet → ℕ
times code [] = 0
times code (p ∷ ps) = if nat_eq p.code code then 1 + times code ps else times code ps

-- The font tells these packets: no code has two of them, a code that has one has its glyph, and a code that has none has
-- nothing.
pub record Tells (font : Font) (packets : List Packet) : Type 0 where
  pub long : length font.glyphs ≡ 256
  pub each : AllByRecursion (λ p. IsGlyph p (glyph_at font p.code)) packets
  pub once : (code : ℕ) → times code packets ≤ 1
  pub others : (code : ℕ) → times code packets ≡ 0 → glyph_at font code ≡ Nothing

-- The bytes are a PK file that tells this font. Its body ends with 245, and then only bytes 246 stand.
pub record IsPk (bytes : List ℕ) (font : Font) : Type 0 where
  pub preamble : HasPreamble bytes
  pub checksum : font.checksum ≡ checksum_of bytes
  pub parts : List Part
  pub nops : ℕ
  pub body : Parts (drop (body_at bytes) bytes) parts (245 ∷ replicate nops 246)
  pub glyphs : Tells font (characters parts)
