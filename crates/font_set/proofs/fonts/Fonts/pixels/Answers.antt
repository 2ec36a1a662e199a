use Rattle.std.proofs.Common.{rules, ◌≡◌, FitsSigned, w64, to_z, of_z, arith, ℤ, Some, None, ap, ◌∙◌}
use Rattle.std.proofs.lemmas.Int.{to_z-of_z, fits_signed_from_abs}
use Rattle.dv_base.specs.Rounding.{Fraction, rounded}
use Rattle.dv_base.specs.UnitPixels.{pixels_of_one}
use Rattle.font_set.specs.Fonts.{FontSet, pixels_at, rounded_by}
use Rattle.font_set.proofs.fonts.Fonts.pixels.Goals as goal

pub returns-in_err-width-clause-value : goal.returns-in_err-width-clause-value
unfolding pixels_at
returns-in_err-width-clause-value c =
    let none : c.from_residual.result ≡ None = search rules in
    none ∙ ap (rounded_by c.args.self.now.units) c.in_err-width.ensures.value

pub returns-clause-value : goal.returns-clause-value
unfolding pixels_at
returns-clause-value c =
    let fits : FitsSigned w64 c.round.result = search rules in
    let width : to_z w64 (of_z w64 c.in_ok-width.width) ≡ c.in_ok-width.width = to_z-of_z w64 c.in_ok-width.width (fits_signed_from_abs w64 c.in_ok-width.width (omega (arith, c.in_ok-width.ensures.bound))) in
    ap (λ (z : ℤ). Some z)
    (to_z-of_z w64 c.round.result fits ∙ c.round.ensures.value ∙ ap (λ (z : ℤ). rounded c.self.inside.conv z) width ∙ ap (λ (f : Fraction). rounded f c.in_ok-width.width) c.self.invariant.1
    ∙ ap (λ (s : FontSet). rounded (pixels_of_one s.units) c.in_ok-width.width) c.self.view_is)
    ∙ ap (rounded_by c.args.self.now.units) c.in_ok-width.ensures.value
