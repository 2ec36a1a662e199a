use Rattle.std.proofs.Common.{ℤ, arith, sym, ap, subst, ◌∙◌}
use Rattle.std.specs.Prelude.{unsigned_abs}
use Rattle.font_set.specs.Fonts.{FontSet}
use Rattle.font_set.specs.FontOf.{resolution}
use Rattle.font_set.specs.Key.{IsUnits}
use Rattle.font_set.specs.Views.{key_of}
use Rattle.font_set.proofs.Sizes.{resolution_fits, resolution_is, dpi_is, mag_is}
use Rattle.font_set.proofs.fonts.Fonts.resolution.Goals as goal

pub overflow_mul-result : goal.overflow_mul-result
overflow_mul-result c =
    omega (
      arith,
      (resolution_fits c.self.inside.units c.from.result c.from-2.result c.from-3.result c.from-design.result c.self.invariant.0 (c.from.ensures ∙ c.unsigned_abs.ensures.value ∙ ap (λ (z : ℤ). unsigned_abs z) (dpi_is c.self.inside.units c.self.invariant.0)) (c.from-2.ensures ∙ c.unsigned_abs-2.ensures.value ∙ ap (λ (z : ℤ). unsigned_abs z) (mag_is c.self.inside.units c.self.invariant.0))
          (subst IsUnits (sym c.from-3.ensures) c.requires.key.size) (subst IsUnits (sym c.from-design.ensures) c.requires.key.design)).0,
    )

pub overflow_add-result : goal.overflow_add-result
overflow_add-result c =
    omega (
      arith,
      (resolution_fits c.self.inside.units c.from.result c.from-2.result c.from-3.result c.from-design.result c.self.invariant.0 (c.from.ensures ∙ c.unsigned_abs.ensures.value ∙ ap (λ (z : ℤ). unsigned_abs z) (dpi_is c.self.inside.units c.self.invariant.0)) (c.from-2.ensures ∙ c.unsigned_abs-2.ensures.value ∙ ap (λ (z : ℤ). unsigned_abs z) (mag_is c.self.inside.units c.self.invariant.0))
          (subst IsUnits (sym c.from-3.ensures) c.requires.key.size) (subst IsUnits (sym c.from-design.ensures) c.requires.key.design)).1,
    )

pub overflow_cast-result : goal.overflow_cast-result
overflow_cast-result c =
    omega (
      arith,
      (resolution_fits c.self.inside.units c.from.result c.from-2.result c.from-3.result c.from-design.result c.self.invariant.0 (c.from.ensures ∙ c.unsigned_abs.ensures.value ∙ ap (λ (z : ℤ). unsigned_abs z) (dpi_is c.self.inside.units c.self.invariant.0)) (c.from-2.ensures ∙ c.unsigned_abs-2.ensures.value ∙ ap (λ (z : ℤ). unsigned_abs z) (mag_is c.self.inside.units c.self.invariant.0))
          (subst IsUnits (sym c.from-3.ensures) c.requires.key.size) (subst IsUnits (sym c.from-design.ensures) c.requires.key.design)).2,
    )

pub returns-clause-value : goal.returns-clause-value
returns-clause-value c =
    resolution_is c.self.inside.units (key_of c.args.key.now) c.from.result c.from-2.result c.from-3.result c.from-design.result (c.from.ensures ∙ c.unsigned_abs.ensures.value ∙ ap (λ (z : ℤ). unsigned_abs z) (dpi_is c.self.inside.units c.self.invariant.0)) (c.from-2.ensures ∙ c.unsigned_abs-2.ensures.value ∙ ap (λ (z : ℤ). unsigned_abs z) (mag_is c.self.inside.units c.self.invariant.0)) c.from-3.ensures c.from-design.ensures
    ∙ ap (λ (s : FontSet). resolution s.units (key_of c.args.key.now)) c.self.view_is

pub returns-clause-bound : goal.returns-clause-bound
returns-clause-bound c =
    (resolution_fits c.self.inside.units c.from.result c.from-2.result c.from-3.result c.from-design.result c.self.invariant.0 (c.from.ensures ∙ c.unsigned_abs.ensures.value ∙ ap (λ (z : ℤ). unsigned_abs z) (dpi_is c.self.inside.units c.self.invariant.0)) (c.from-2.ensures ∙ c.unsigned_abs-2.ensures.value ∙ ap (λ (z : ℤ). unsigned_abs z) (mag_is c.self.inside.units c.self.invariant.0))
    (subst IsUnits (sym c.from-3.ensures) c.requires.key.size) (subst IsUnits (sym c.from-design.ensures) c.requires.key.design)).2
