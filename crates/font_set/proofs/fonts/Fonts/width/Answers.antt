use Rattle.std.proofs.Common.{rules, ◌≡◌, ◌<◌, ◌^◌, FitsSigned, w32, w64, to_z, of_z, ℤ, Some, None, arith, sym, ap, subst, ◌∙◌}
use Rattle.std.specs.Prelude.{unsigned_abs}
use Rattle.std.proofs.lemmas.Int.{to_z-of_z, fits_signed_from_abs}
use Rattle.dv_base.specs.Scale.{scaled}
use Rattle.font_set.specs.Fonts.{width_at, width_by, size_at}
use Rattle.font_set.proofs.Sizes.{scaled_bound}
use Rattle.font_set.proofs.fonts.Fonts.width.Goals as goal

pub returns-in_err-parts-clause-value : goal.returns-in_err-parts-clause-value
unfolding width_at
returns-in_err-parts-clause-value c =
    let none : c.from_residual.result ≡ None = search rules in
    none ∙ ap (width_by (size_at c.args.self.now c.args.id)) c.in_err-parts.ensures.value

pub returns-clause-value : goal.returns-clause-value
unfolding width_at
returns-clause-value c =
    let bound = scaled_bound c.size.result c.in_ok-parts.parts c.size.ensures.bound c.in_ok-parts.ensures.fine in
    let parts : to_z w32 (of_z w32 c.in_ok-parts.parts) ≡ c.in_ok-parts.parts = to_z-of_z w32 c.in_ok-parts.parts (fits_signed_from_abs w32 c.in_ok-parts.parts (omega (arith, c.in_ok-parts.ensures.fine))) in
    let value : c.scale.result ≡ scaled c.size.result c.in_ok-parts.parts = c.scale.ensures.value ∙ ap (λ (z : ℤ). scaled c.size.result z) parts in
    let less : unsigned_abs c.scale.result < 2 ^ 32 = subst (λ (z : ℤ). unsigned_abs z < 2 ^ 32) (sym value) bound in
    let fits : FitsSigned w64 c.scale.result = fits_signed_from_abs w64 c.scale.result (omega (arith, less)) in
    ap (λ (z : ℤ). Some z) (to_z-of_z w64 c.scale.result fits ∙ value ∙ ap (λ n. scaled n c.in_ok-parts.parts) c.size.ensures.value)
    ∙ ap (width_by (size_at c.args.self.now c.args.id)) c.in_ok-parts.ensures.value

pub returns-clause-bound : goal.returns-clause-bound
returns-clause-bound c =
    let bound = scaled_bound c.size.result c.in_ok-parts.parts c.size.ensures.bound c.in_ok-parts.ensures.fine in
    let parts : to_z w32 (of_z w32 c.in_ok-parts.parts) ≡ c.in_ok-parts.parts = to_z-of_z w32 c.in_ok-parts.parts (fits_signed_from_abs w32 c.in_ok-parts.parts (omega (arith, c.in_ok-parts.ensures.fine))) in
    let value : c.scale.result ≡ scaled c.size.result c.in_ok-parts.parts = c.scale.ensures.value ∙ ap (λ (z : ℤ). scaled c.size.result z) parts in
    let less : unsigned_abs c.scale.result < 2 ^ 32 = subst (λ (z : ℤ). unsigned_abs z < 2 ^ 32) (sym value) bound in
    let fits : FitsSigned w64 c.scale.result = fits_signed_from_abs w64 c.scale.result (omega (arith, less)) in
    subst (λ (z : ℤ). unsigned_abs z < 2 ^ 32) (sym (to_z-of_z w64 c.scale.result fits)) less
