use Rattle.std.proofs.Common.{rules, ◌≡◌, ◌++◌, ◌-ℤ◌, ap, ◌∙◌, subst, w64}
use Rattle.std.specs.Prelude.{FitsSigned}
use Rattle.std.proofs.lemmas.Int.{to_z-of_z}
use Rattle.dvi_ops.specs.Command.Command.{Right}
use Rattle.dvicopy_out.specs.Spelled.{spelled}
use Rattle.dvicopy_out.specs.Moves.{moves}
use Rattle.dvicopy_out.specs.Marked.{Pen, way}
use Rattle.dvicopy_out.proofs.Spelling.{a_way}
use Rattle.dvicopy_out.proofs.pen.Pen.go.Goals as goal

pub returns-clause-value : goal.returns-clause-value
returns-clause-value c =
    let p : Pen = record { h = c.self.inside.h; v = c.self.inside.v; font = c.self.inside.font } in
    let same : p ≡ c.args.self.now = search rules in
    let x = c.args.h -ℤ c.self.inside.h in
    let y = c.args.v -ℤ c.self.inside.v in
    let hh : FitsSigned w64 c.args.h = search rules in
    let hv : FitsSigned w64 c.args.v = search rules in
    let ih : FitsSigned w64 c.self.inside.h = search rules in
    let iv : FitsSigned w64 c.self.inside.v = search rules in
    let hx : FitsSigned w64 x = search rules in
    let hy : FitsSigned w64 y = search rules in
    let a = simp (to_z-of_z w64 c.args.h hh, to_z-of_z w64 c.self.inside.h ih, to_z-of_z w64 x hx) at c.right.ensures.value in
    let b = simp (to_z-of_z w64 c.args.v hv, to_z-of_z w64 c.self.inside.v iv, to_z-of_z w64 y hy) at c.down.ensures.value in
    subst (λ (q : Pen). c.down.new.script ≡ spelled (way q c.args.h c.args.v)) same
    (a_way c.right.new.script c.down.new.script x y (a ∙ ap (λ bs. bs ++ spelled (moves Right x)) c.clear.ensures) b)
