-- How a file's packets are kept: by their places in its bytes. No public clause cites this module.
use Rattle.std.specs.Prelude.{◌≡◌, ℕ, List, ◌≤◌, length, slice_range, map, Option, None, Some}
use Rattle.std.specs.List.{All}
use Rattle.vf_packets.specs.Font.{LocalFont, VirtualFont}
use Rattle.vf_packets.specs.declared.vf.Slot.{Slot}
use Rattle.vf_packets.specs.declared.vf.Slot.TheVariants as slot

-- The bytes of a packet that stands in these.
abbrev pub packet_in : List ℕ → Slot → Option (List ℕ)
packet_in bytes slot.Empty = None
packet_in bytes (slot.Packet span) = Some (slice_range bytes span.start span.end)

abbrev pub IsTaken : Slot → Type 0
IsTaken slot.Empty = ⊥
IsTaken (slot.Packet span) = Unit {0}

-- The packet lies in n bytes.
abbrev pub IsInside : ℕ → Slot → Type 0
IsInside n slot.Empty = Unit {0}
IsInside n (slot.Packet span) = (span.start ≤ span.end) × (span.end ≤ n)

-- What these places tell.
abbrev pub font_in : ℕ → List LocalFont → List ℕ → List Slot → VirtualFont
font_in checksum locals bytes slots = record { checksum = checksum; locals = locals; packets = map (packet_in bytes) slots }

-- There is a slot for each code, and its packet lies in the bytes.
pub record AreSlots (bytes : List ℕ) (slots : List Slot) : Type 0 where
  pub long : length slots ≡ 256
  pub inside : All (IsInside (length bytes)) slots
