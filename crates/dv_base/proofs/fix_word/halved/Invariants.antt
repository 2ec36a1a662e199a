use Rattle.std.proofs.Common.{◌≡◌, ◌+◌, ◌/◌, ◌^◌}
use Rattle.dv_base.specs.Scale.{halvings}
use Rattle.dv_base.proofs.fix_word.halved.Given as goal

abbrev pub invariant-loop-reduced : goal.invariant-loop-reduced
invariant-loop-reduced l = record {
  ahead : l.times + halvings l.reduced ≡ halvings l.fn.size;
  value : l.reduced ≡ l.fn.size / 2 ^ l.times;
}

abbrev pub decreases-loop-reduced : goal.decreases-loop-reduced
decreases-loop-reduced l = l.reduced
