use Rattle.std.proofs.Common.{inl, refl, subst}
use Rattle.dvi_ops.specs.Command.Command.{Pre}
use Rattle.dvi_ops.specs.View.{view, head_view}
use Rattle.dvi_ops.specs.declared.cmd.Cmd.{Cmd}
use Rattle.dvi_doc.specs.Order.{SpelledTo}
use Rattle.dvi_doc.proofs.Refuted.{other_spelled, none_spelled}
use Rattle.dvi_doc.proofs.Further.{not_pre}
use Rattle.dvi_doc.proofs.front.read_preamble.Goals as goal

pub returns-then-head-ne2-clause-fault : goal.returns-then-head-ne2-clause-fault
returns-then-head-ne2-clause-fault c =
    let f = c.in-Ok.ensures.found in
    let s : SpelledTo c.args.bytes.now 0 c.in-Ok.end (Pre (head_view c.in-Pre.head)) = subst (λ (x : Cmd). SpelledTo c.args.bytes.now 0 c.in-Ok.end (view x)) c.in-Pre.is (f.0, f.1, f.2) in
    inl (refl, head_view c.in-Pre.head, c.in-Ok.end, s, c.if-head-ne2.true)

pub returns-in_default : goal.returns-in_default
returns-in_default c =
    let f = c.in-Ok.ensures.found in
    record {
      found = tt;
      fault = λ head end s. not_pre c.in-Ok.cmd c.in_default.not-Pre head (other_spelled c.one_spelling.ensures c.args.bytes.now 0 c.in-Ok.end end (view c.in-Ok.cmd) (Pre head) (f.0, f.1, f.2) s);
    }

pub returns-in-Err-clause-fault : goal.returns-in-Err-clause-fault
returns-in-Err-clause-fault c = λ head end s. none_spelled c.args.bytes.now 0 end (Pre head) c.in-Err.ensures.none s
