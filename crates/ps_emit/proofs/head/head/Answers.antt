use Rattle.std.proofs.Common.{rules, w64, codes}
use Rattle.std.specs.Prelude.{FitsSigned}
use Rattle.std.proofs.lemmas.Int.{to_z-of_z}
use Rattle.ps_emit.proofs.Lines.{head_joined}
use Rattle.ps_emit.proofs.head.head.Goals as goal

pub returns : goal.returns
returns c =
    let width : FitsSigned w64 c.args.setup.now.paper.0 = search rules in
    let height : FitsSigned w64 c.args.setup.now.paper.1 = search rules in
    rw (
      c.if-not-comments.false,
      c.text-6.ensures.value,
      c.number-2.ensures.value,
      c.points_up-2.ensures,
      c.field.ensures.value,
      c.points_up.ensures,
      c.text-5.ensures.value,
      c.number.ensures.value,
      c.text-4.ensures.value,
      c.text-3.ensures.value,
      c.as_bytes.ensures.value,
      c.as_str.ensures.value,
      c.text-2.ensures.value,
      c.clear.ensures,
      to_z-of_z w64 c.args.setup.now.paper.0 width,
      to_z-of_z w64 c.args.setup.now.paper.1 height,
    )
    (head_joined (codes "%!PS-Adobe-2.0\n%%Creator: texdvi\n%%Title: ") _ (codes "\n") (codes "%%Pages: ") _ (codes "%%BoundingBox: 0 0 ") _ _ (codes "%%EndComments\n") (codes "%%BeginProlog\n") 32)
