-- What stands in the bytes where a VF file is refused.
use Rattle.std.specs.Prelude.{◌≡◌, ◌≢◌, ℕ, List, [], ◌∷◌, ◌++◌, ◌<◌, ◌≤◌, ◌⊎◌, length, drop, map, slice_index, replicate, Option}
use Rattle.std.specs.List.{AllByRecursion}
use Rattle.dvi_ops.specs.Command.{Definition}
use Rattle.dvi_ops.specs.Spelling.{RunsPast}
use Rattle.dv_base.specs.FontName.{IsFontName}
use Rattle.vf_packets.specs.Programs.{IsProgram}
use Rattle.vf_packets.specs.Font.{LocalFont, VirtualFont, Has}
use Rattle.vf_packets.specs.Packets.{CharacterPacket, Packets}
use Rattle.vf_packets.specs.File.{HasPreamble, body_at, IsDefinitionByte, Definitions, local_of, kept, times, Tells, IsVf}
use Rattle.vf_packets.specs.PacketFaults.{IsShortPacket}
use Rattle.vf_packets.specs.declared.fault.VfFault.{VfFault}
use Rattle.vf_packets.specs.declared.fault.VfFault.TheVariants as fault

-- The definitions up to a place.
pub record DefinedTo (bytes : List ℕ) (ds : List Definition) (at : ℕ) : Type 0 where
  pub preamble : HasPreamble bytes
  pub within : at ≤ length bytes
  pub read : Definitions (drop (body_at bytes) bytes) ds (drop at bytes)

-- The definitions, and the packets from `middle` up to a place. Where no packet is read yet, a definition may still begin there.
pub record ReadTo (bytes : List ℕ) (packets : List CharacterPacket) (at : ℕ) : Type 0 where
  pub definitions : List Definition
  pub middle : ℕ
  pub defined : DefinedTo bytes definitions middle
  pub within : at ≤ length bytes
  pub read : Packets (drop middle bytes) packets (drop at bytes)

-- At a place behind packets, or behind definitions where there is none, a byte stands that begins neither what may come nor the end.
pub record IsBadOrder (bytes : List ℕ) (at : ℕ) : Type 0 where
  pub packets : List CharacterPacket
  pub read : ReadTo bytes packets at
  pub here : at < length bytes
  pub byte : ((0 < length packets) × IsDefinitionByte (slice_index bytes at)) ⊎ ((slice_index bytes at ≡ 247) ⊎ (248 < slice_index bytes at))

-- A definition that begins behind definitions runs past the end, or a packet.
abbrev pub IsShort : List ℕ → ℕ → Type 0
IsShort bytes at =
    ((ds : List Definition) × DefinedTo bytes ds at × IsDefinitionByte (slice_index bytes at) × RunsPast bytes at)
    ⊎ ((ps : List CharacterPacket) × ReadTo bytes ps at × IsShortPacket bytes at)

-- Behind the last definition or packet stands the end, or a byte 248 and then not only bytes 248.
pub record HasNoPost (bytes : List ℕ) : Type 0 where
  pub packets : List CharacterPacket
  pub at : ℕ
  pub read : ReadTo bytes packets at
  pub last : at < length bytes → slice_index bytes at ≡ 248
  pub other : (n : ℕ) → drop at bytes ≡ 248 ∷ replicate n 248 → ⊥

abbrev pub VfFaultIs : List ℕ → VfFault → Type 0
VfFaultIs bytes fault.BadPreamble = HasPreamble bytes → ⊥
VfFaultIs bytes (fault.BadOrder at) = IsBadOrder bytes at
VfFaultIs bytes (fault.Short at) = IsShort bytes at
VfFaultIs bytes (fault.BadOp c) = (ps : List CharacterPacket) × (p : CharacterPacket) × (at : ℕ) × ReadTo bytes (ps ++ p ∷ []) at × (c ≡ p.code) × (IsProgram p.commands → ⊥)
VfFaultIs bytes (fault.Twice c) = (ps : List CharacterPacket) × (at : ℕ) × ReadTo bytes ps at × (1 < times c (kept ps))
VfFaultIs bytes (fault.FontTwice k) = (ds : List Definition) × (d : Definition) × (at : ℕ) × DefinedTo bytes (ds ++ d ∷ []) at × (k ≡ d.k) × Has (map local_of ds) d.k
VfFaultIs bytes (fault.BadName k) = (ds : List Definition) × (d : Definition) × (at : ℕ) × DefinedTo bytes (ds ++ d ∷ []) at × (k ≡ d.k) × (IsFontName d.name → ⊥)
VfFaultIs bytes fault.NoPost = HasNoPost bytes
VfFaultIs bytes fault.OutOfMemory = Unit {0}

-- The bytes are no VF file.
abbrev pub NoFont : List ℕ → Type 0
NoFont bytes = (font : VirtualFont) → IsVf bytes font → ⊥

-- Why the bytes are refused, and that they are no VF file.
pub record RefusesFile (bytes : List ℕ) (e : VfFault) : Type 0 where
  pub says : VfFaultIs bytes e
  pub none : e ≢ fault.OutOfMemory → NoFont bytes

-- The local fonts up to a place, each of which has a name that a font may have.
pub record LocalsTo (bytes : List ℕ) (locals : List LocalFont) (at : ℕ) : Type 0 where
  pub definitions : List Definition
  pub read : DefinedTo bytes definitions at
  pub are : locals ≡ map local_of definitions
  pub named : AllByRecursion (λ d. IsFontName d.name) definitions

-- No definition begins at the place.
abbrev pub NoDefinitionAt : List ℕ → ℕ → Type 0
NoDefinitionAt bytes at = at < length bytes → IsDefinitionByte (slice_index bytes at) → ⊥

-- The table tells the packets up to a place, which begin at `middle`.
pub record PacketsTo (bytes : List ℕ) (middle : ℕ) (table : List (Option (List ℕ))) (at : ℕ) : Type 0 where
  pub definitions : List Definition
  pub defined : DefinedTo bytes definitions middle
  pub stops : NoDefinitionAt bytes middle
  pub packets : List CharacterPacket
  pub within : at ≤ length bytes
  pub read : Packets (drop middle bytes) packets (drop at bytes)
  pub told : Tells table (kept packets)

-- The packets end at a place: a byte 248 stands there, or the end.
abbrev pub EndsAt : List ℕ → ℕ → Type 0
EndsAt bytes at = at < length bytes → slice_index bytes at ≡ 248

-- From the place on stand one or more bytes 248, and nothing else.
pub record OnlyFill (bytes : List ℕ) (at : ℕ) : Type 0 where
  pub some : at < length bytes
  pub all : (i : ℕ) → at ≤ i → i < length bytes → slice_index bytes i ≡ 248
