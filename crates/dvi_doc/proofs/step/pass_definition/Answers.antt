use Rattle.std.proofs.Common.{sym, subst, slice_range, arith}
use Rattle.dvi_ops.specs.Command.{Definition}
use Rattle.dvi_ops.specs.Command.Command.{FntDef}
use Rattle.dvi_ops.specs.Defined.{defined}
use Rattle.dvi_doc.specs.Order.{SpelledTo}
use Rattle.dvi_doc.proofs.Standing.{spelled_once}
use Rattle.dvi_doc.proofs.step.pass_definition.Goals as goal

pub returns-then-end-ends : goal.returns-then-end-ends
returns-then-end-ends c =
    let bytes = c.args.bytes.now in
    let at = c.args.at in
    let end = c.in_ok-end.end in
    let s : SpelledTo bytes at end (FntDef (defined (slice_range bytes at end))) = c.in_ok-end.ensures in
    (subst (λ (x : Definition). SpelledTo bytes at end (FntDef x)) (sym c.definition_of.ensures) s, c.if-end-ends.true)

pub returns-in_err-end : goal.returns-in_err-end
returns-in_err-end c = rw c.from_residual.ensures (λ d end s inside. c.in_err-end.ensures d end s.0 s.1 s.2)

pub returns-else-end-ends : goal.returns-else-end-ends
returns-else-end-ends c = λ d end s inside.
    let bytes = c.args.bytes.now in
    let found : Definition = defined (slice_range bytes c.args.at c.in_ok-end.end) in
    let law = spelled_once c.one_spelling.ensures bytes c.args.at end c.in_ok-end.end (FntDef d) (FntDef found) s c.in_ok-end.ensures in
    omega (arith, law.0, inside, c.if-end-ends.false)
