use Rattle.std.proofs.Common.{◌≡◌, ◌≤◌, ◌-◌, length}
use Rattle.bit_lanes.specs.Rows.{Shows}
use Rattle.bit_lanes.proofs.align.lay_all_lanes.Given as goal

abbrev pub invariant-loop-at : goal.invariant-loop-at
invariant-loop-at l = record {
  most : l.at ≤ l.many;
  shown : Shows l.from l.shift l.at l.to;
  len : length l.to ≡ length l.fn.to;
}

abbrev pub decreases-loop-at : goal.decreases-loop-at
decreases-loop-at l = l.many - l.at
