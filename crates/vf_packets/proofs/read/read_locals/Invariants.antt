use Rattle.std.proofs.Common.{length, ◌-◌}
use Rattle.std.specs.Prelude.{map}
use Rattle.vf_packets.specs.Faults.{LocalsTo}
use Rattle.vf_packets.specs.LocalViews.{local_view}
use Rattle.vf_packets.proofs.read.read_locals.Given as goal

abbrev pub invariant-definitions : goal.invariant-definitions
invariant-definitions l = LocalsTo l.bytes (map local_view l.fonts.items) l.at

abbrev pub decreases-definitions : goal.decreases-definitions
decreases-definitions l = length l.bytes - l.at
