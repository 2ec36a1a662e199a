use Rattle.std.proofs.Common.{arith, suc}
use Rattle.font_set.proofs.skim.skim.Goals as goal

pub loop-next-preserved : goal.loop-next-preserved
loop-next-preserved c =
    let i = c.loop-next.invariant in
    let e = c.in-Some.ensures in
    record {
      passed = (suc i.passed.0, (c.loop-next.next, i.passed.1, e));
      further = omega (arith, i.further, e.0);
      within = e.1;
    }
