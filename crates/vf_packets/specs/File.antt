-- VF files, id 202 (D. Knuth, "Virtual fonts: more fun for grand wizards", TUGboat 11:1): a preamble, definitions of local fonts,
-- packets, and one or more bytes 248 to the end.
use Rattle.std.specs.Prelude.{◌≡◌, ℕ, List, [], ◌∷◌, ◌++◌, ◌+◌, ◌≤◌, length, drop, slice_index, replicate, map, if◌then◌else◌, nat_lt, nat_eq, Option, None, Some}
use Rattle.std.specs.List.{AllByRecursion}
use Rattle.dvi_ops.specs.Command.{Definition}
use Rattle.dvi_ops.specs.Command.Command.{FntDef}
use Rattle.dv_base.specs.Numbers.{unsigned}
use Rattle.dvi_ops.specs.Spelling.{Spell}
use Rattle.dv_base.specs.FontName.{IsFontName}
use Rattle.vf_packets.specs.Programs.{IsProgram}
use Rattle.vf_packets.specs.Font.{LocalFont, VirtualFont, Apart, entry, packet_of}
use Rattle.vf_packets.specs.Packets.{CharacterPacket, Packets}

-- The preamble is 247, 202, a comment with its length in one byte before it, and eight bytes: the checksum and the design size. The
-- definitions begin behind it.
abbrev pub body_at : List ℕ → ℕ
body_at bytes = 11 + slice_index bytes 2

pub record HasPreamble (bytes : List ℕ) : Type 0 where
  pub first : slice_index bytes 0 ≡ 247
  pub id : slice_index bytes 1 ≡ 202
  pub whole : body_at bytes ≤ length bytes

abbrev pub checksum_of : List ℕ → ℕ
checksum_of bytes = unsigned (3 + slice_index bytes 2) 4 bytes

-- A definition begins with a byte 243 to 246, as in a DVI file.
abbrev pub IsDefinitionByte : ℕ → Type 0
IsDefinitionByte byte = (243 ≤ byte) × (byte ≤ 246)

-- The bytes are these definitions, one after another, and then come these.
abbrev pub Definitions : List ℕ → List Definition → List ℕ → Type 0
Definitions bytes [] rest = bytes ≡ rest
Definitions bytes (d ∷ ds) rest =
    (front : List ℕ) × (more : List ℕ) × (bytes ≡ front ++ more) × IsDefinitionByte (slice_index bytes 0) × Spell (FntDef d) front × Definitions more ds rest

-- The local font of a definition.
abbrev pub local_of : Definition → LocalFont
local_of d = record { k = d.k; checksum = d.checksum; scale = d.size; design = d.design; name = d.name }

-- The packets that have a code up to 255; the others are passed over.
unfoldable pub kept : List CharacterPacket → List CharacterPacket
kept [] = []
kept (p ∷ ps) = if nat_lt 255 p.code then kept ps else p ∷ kept ps

-- How many of the packets have the code.
unfoldable pub times : ℕ → List CharacterPacket → ℕ
times code [] = 0
times code (p ∷ ps) = if nat_eq p.code code then 1 + times code ps else times code ps

-- The table tells these packets: no code has two of them, each is a list of whole commands that a packet may hold, a code that has
-- one has its bytes, and a code that has none has nothing.
pub record Tells (table : List (Option (List ℕ))) (packets : List CharacterPacket) : Type 0 where
  pub long : length table ≡ 256
  pub each : AllByRecursion (λ p. (entry table p.code ≡ Some p.commands) × IsProgram p.commands) packets
  pub once : (code : ℕ) → times code packets ≤ 1
  pub others : (code : ℕ) → times code packets ≡ 0 → entry table code ≡ None

-- Each of a font's packets is a list of whole commands that a packet may hold.
abbrev pub HoldsPrograms : VirtualFont → Type 0
HoldsPrograms font = (code : ℕ) (commands : List ℕ) → packet_of font code ≡ Some commands → IsProgram commands

-- The bytes are a VF file that tells this font.
pub record IsVf (bytes : List ℕ) (font : VirtualFont) : Type 0 where
  pub preamble : HasPreamble bytes
  pub checksum : font.checksum ≡ checksum_of bytes
  pub definitions : List Definition
  pub middle : List ℕ
  pub defined : Definitions (drop (body_at bytes) bytes) definitions middle
  pub packets : List CharacterPacket
  pub fill : ℕ
  pub body : Packets middle packets (248 ∷ replicate fill 248)
  pub locals : font.locals ≡ map local_of definitions
  pub named : AllByRecursion (λ d. IsFontName d.name) definitions
  pub apart : Apart (map local_of definitions)
  pub told : Tells font.packets (kept packets)
