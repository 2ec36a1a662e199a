use Rattle.std.proofs.Common.{◌≡◌, length}
use Rattle.bit_lanes.specs.Rows.{Shows}
use Rattle.bit_lanes.proofs.align.lay_rest.Given as goal

abbrev pub invariant-loop-at : goal.invariant-loop-at
invariant-loop-at l = record {
  shown : Shows l.from l.shift l.at l.to;
  len : length l.to ≡ length l.fn.to;
}
