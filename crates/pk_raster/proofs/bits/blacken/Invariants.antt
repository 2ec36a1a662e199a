use Rattle.std.proofs.Common.{◌-◌, ◌≡◌, ℕ, ◌<◌, ◌≤◌}
use Rattle.bit_lanes.specs.Bits.{bit}
use Rattle.pk_raster.proofs.bits.blacken.Given as goal

abbrev pub invariant-loop-at : goal.invariant-loop-at
invariant-loop-at l = record {
  from : l.start ≤ l.at;
  to : l.at ≤ l.end;
  black : (i : ℕ) → l.start ≤ i → i < l.at → bit l.row i ≡ 1;
  before : (i : ℕ) → i < l.start → bit l.row i ≡ bit l.fn.row i;
  behind : (i : ℕ) → l.at ≤ i → bit l.row i ≡ bit l.fn.row i;
}

abbrev pub decreases-loop-at : goal.decreases-loop-at
decreases-loop-at l = l.end - l.at
