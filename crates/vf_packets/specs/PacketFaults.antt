-- What the reader of packets answers. (Of these words public clauses cite `IsShortPacket` alone.)
use Rattle.std.specs.Prelude.{◌≡◌, ℕ, List, ◌+◌, ◌<◌, ◌≤◌, length, drop, slice_index, slice_range, Some}
use Rattle.vf_packets.specs.Packets.{CharacterPacket, packet_at, extent}
use Rattle.vf_packets.specs.declared.packet.Packet.{Packet}

abbrev pub packet_view : List ℕ → Packet → CharacterPacket
packet_view bytes p = record { code = p.code; commands = slice_range bytes p.start p.end }

-- The packet at a place.
pub record IsPacketAt (bytes : List ℕ) (at : ℕ) (p : Packet) : Type 0 where
  pub further : at < p.start
  pub order : p.start ≤ p.end
  pub within : p.end ≤ length bytes
  pub found : packet_at (drop at bytes) ≡ Some (packet_view bytes p, drop p.end bytes)

-- The packet that begins here runs past the end.
pub record IsShortPacket (bytes : List ℕ) (at : ℕ) : Type 0 where
  pub here : at < length bytes
  pub first : slice_index bytes at ≤ 242
  pub past : length bytes < at + 1 + extent (slice_index bytes at) (drop (at + 1) bytes)
