use Rattle.dvi_ops.specs.View.{def_view}
use Rattle.dvi_doc.proofs.Defined.{judged_some, judged_none, judged_new, judged_good}
use Rattle.dvi_doc.proofs.postamble.first_fault.Goals as goal

pub returns-then-is_some : goal.returns-then-is_some
returns-then-is_some c = λ ds h. judged_some c.args.before ds (def_view c.args.def.now) c.if-is_some.ensures h

pub returns-in-Ok : goal.returns-in-Ok
returns-in-Ok c = λ ds h. judged_good ds (def_view c.args.def.now) (judged_none c.args.before ds c.if-is_some.ensures h) c.in-Ok.ensures.good

pub returns-in-Err : goal.returns-in-Err
returns-in-Err c = λ ds h. judged_new ds (def_view c.args.def.now) c.in-Err.fault c.in-Err.ensures.fault
