use Rattle.std.proofs.Common.{append_assoc, refl, rules, w64}
use Rattle.std.specs.Prelude.{FitsSigned}
use Rattle.std.proofs.lemmas.Int.{to_z-of_z}
use Rattle.ps_emit.proofs.head.job.Goals as goal

pub returns : goal.returns
returns c =
    let height : FitsSigned w64 c.args.setup.now.paper.1 = search rules in
    let x : FitsSigned w64 c.args.setup.now.origin.0 = search rules in
    let y : FitsSigned w64 c.args.setup.now.origin.1 = search rules in
    rw (
      c.comment-3.ensures.value,
      c.text-3.ensures.value,
      c.field-6.ensures.value,
      c.field-5.ensures.value,
      c.field-4.ensures.value,
      c.field-3.ensures.value,
      c.field-2.ensures.value,
      c.text-2.ensures.value,
      c.field.ensures.value,
      c.text.ensures.value,
      c.comment-2.ensures.value,
      c.comment.ensures.value,
      c.clear.ensures,
      to_z-of_z w64 c.args.setup.now.paper.1 height,
      to_z-of_z w64 c.args.setup.now.origin.0 x,
      to_z-of_z w64 c.args.setup.now.origin.1 y,
    )
    (simp append_assoc refl)
