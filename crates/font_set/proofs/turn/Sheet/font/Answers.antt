use Rattle.std.proofs.Common.{ℤ, Some, ap, sym, subst, ◌∙◌, w64}
use Rattle.std.proofs.lemmas.Int.{to_z-of_z}
use Rattle.dvi_ops.specs.View.{def_view}
use Rattle.font_set.specs.Programs.{key_in, HasNumber}
use Rattle.font_set.proofs.Defining.{key_made}
use Rattle.font_set.proofs.turn.Sheet.font.Goals as goal

pub returns-in-Some : goal.returns-in-Some
returns-in-Some c =
    let made = key_made (def_view c.in-Some.font) c.of.result c.in-Some.ensures.named c.in-Some.ensures.sized c.of.ensures in (
      ap (key_in c.args.self.now.page.scope.fonts) (sym (to_z-of_z w64 c.args.k c.ranges.k)) ∙ c.in-Some.ensures.found ∙ ap Some made.0,
      made.1,
    )

pub returns-in-None : goal.returns-in-None
returns-in-None c = subst (λ (k : ℤ). HasNumber c.args.self.now.page.scope.fonts k → ⊥) (to_z-of_z w64 c.args.k c.ranges.k) c.in-None.ensures.found
