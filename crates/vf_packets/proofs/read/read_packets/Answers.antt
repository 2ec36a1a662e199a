use Rattle.std.proofs.Common.{rules, ◌≡◌, ap, ◌∙◌}
use Rattle.std.specs.Prelude.{map, replicate}
use Rattle.vf_packets.specs.Slots.{packet_in}
use Rattle.vf_packets.specs.declared.vf.Slot.TheVariants as slot
use Rattle.vf_packets.proofs.Gathering.{packets_start, none_kept, empty_slots}
use Rattle.vf_packets.proofs.read.read_packets.Goals as goal

pub packets-init : goal.packets-init
packets-init c =
    let bytes = c.args.bytes.now in
    let e : c.in_ok-slots.slots.items ≡ replicate 256 slot.Empty = search rules in
    let d = c.requires.defined in
    record {
      slots = empty_slots bytes c.in_ok-slots.slots.items e;
      reached = packets_start bytes d.0 c.args.middle (map (packet_in bytes) c.in_ok-slots.slots.items) d.1 c.requires.stops (ap (map (packet_in bytes)) e ∙ none_kept bytes 256);
    }
