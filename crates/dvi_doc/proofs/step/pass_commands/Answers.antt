use Rattle.std.proofs.Common.{arith, suc}
use Rattle.dvi_doc.proofs.step.pass_commands.Goals as goal

pub loop-at-preserved : goal.loop-at-preserved
loop-at-preserved c =
    let p = c.loop-at.invariant.passed in
    let e = c.in-Some.ensures in
    record { passed = (suc p.0, (c.loop-at.at, p.1, e.1, e.2, e.3, e.4)); further = omega (arith, c.loop-at.invariant.further, e.2.0); within = e.0 }
