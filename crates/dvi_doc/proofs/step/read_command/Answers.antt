use Rattle.std.proofs.Common.{inr}
use Rattle.dvi_ops.specs.View.{view}
use Rattle.dvi_doc.proofs.step.read_command.Goals as goal

pub returns-then-end-ends-clause-fault : goal.returns-then-end-ends-clause-fault
returns-then-end-ends-clause-fault c =
    let f = c.in-Ok.ensures.found in
    inr (inr (c.requires.trailer.0, c.args.at, c.requires.reached.0, view c.in-Ok.cmd, c.in-Ok.end, c.requires.reached.1, (f.0, f.1, f.2), c.requires.before, c.if-end-ends.true))
