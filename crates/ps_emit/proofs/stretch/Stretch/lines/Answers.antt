use Rattle.std.proofs.Common.{append_assoc, refl, rules, w64, ap, subst, ◌≡◌, ◌++◌, Some}
use Rattle.std.specs.Prelude.{FitsSigned}
use Rattle.std.proofs.lemmas.Int.{to_z-of_z}
use Rattle.ps_subset.specs.Items.{Pen}
use Rattle.ps_subset.specs.Marks.{Kept, kept_closing}
use Rattle.ps_emit.proofs.stretch.Stretch.lines.Goals as goal

pub returns-clause-value : goal.returns-clause-value
returns-clause-value c =
    let x : FitsSigned w64 c.self.inside.x = search rules in
    let y : FitsSigned w64 c.self.inside.y = search rules in
    let last : FitsSigned w64 c.self.inside.last = search rules in
    let d : FitsSigned w64 c.pen.inside.delta = search rules in
    let delta : c.pen.inside.delta ≡ c.args.pen.now.delta = ap (λ (p : Pen). p.delta) c.pen.view_is in
    subst (λ (k : Kept). c.end.new.out ≡ c.args.line.now ++ kept_closing c.args.pen.now (Some k) c.args.next) c.self.view_is
    (rw (
      c.end.ensures.value,
      c.string.ensures.value,
      c.as_slice.ensures.value,
      c.move_to.ensures.value,
      c.font.ensures.value,
      to_z-of_z w64 c.self.inside.x x,
      to_z-of_z w64 c.self.inside.y y,
      to_z-of_z w64 c.self.inside.last last,
      to_z-of_z w64 c.pen.inside.delta d,
      delta,
    )
    (simp append_assoc refl))
