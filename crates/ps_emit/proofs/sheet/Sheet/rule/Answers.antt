use Rattle.std.proofs.Common.{append_assoc, refl, rules, w64}
use Rattle.std.specs.Prelude.{FitsSigned}
use Rattle.std.proofs.lemmas.Int.{to_z-of_z}
use Rattle.ps_emit.proofs.sheet.Sheet.rule.Goals as goal

pub returns-clause-value : goal.returns-clause-value
returns-clause-value c pass =
    let x : FitsSigned w64 c.args.mark.now.x = search rules in
    let y : FitsSigned w64 c.args.mark.now.y = search rules in
    let columns : FitsSigned w64 c.args.mark.now.w = search rules in
    let rows : FitsSigned w64 c.args.mark.now.rows = search rules in
    rw (
      c.rule.ensures.value,
      c.reach.ensures.value,
      c.clear.ensures,
      to_z-of_z w64 c.args.mark.now.x x,
      to_z-of_z w64 c.args.mark.now.y y,
      to_z-of_z w64 c.args.mark.now.w columns,
      to_z-of_z w64 c.args.mark.now.rows rows,
    )
    (simp append_assoc refl)
