use Rattle.std.proofs.Common.{length, ◌-◌}
use Rattle.std.specs.Prelude.{map}
use Rattle.vf_packets.specs.Faults.{PacketsTo}
use Rattle.vf_packets.specs.Slots.{packet_in, AreSlots}
use Rattle.vf_packets.proofs.read.read_packets.Given as goal

abbrev pub invariant-packets : goal.invariant-packets
invariant-packets l = record {
  slots : AreSlots l.bytes l.slots.items;
  reached : PacketsTo l.bytes l.middle (map (packet_in l.bytes) l.slots.items) l.at;
}

abbrev pub decreases-packets : goal.decreases-packets
decreases-packets l = length l.bytes - l.at
