use Rattle.std.proofs.Common.{arith, rules}
use Rattle.bit_lanes.proofs.Laid.{one_byte}
use Rattle.bit_lanes.proofs.align.lay_rest.Goals as goal

pub loop-at-preserved : goal.loop-at-preserved
loop-at-preserved c = record {
  shown = one_byte c.args.from.now c.args.shift c.loop-at.at c.loop-at.to c.window_at.result (omega arith) c.loop-at.invariant.shown (λ j h. c.window_at.ensures j h);
  len = search rules;
}
