use Rattle.std.proofs.Common.{rules, ◌≡◌, ◌<◌, ◌≤◌, ◌^◌, ◌<ℤ◌, ℤ, pos, FitsSigned, to_z, of_z, w64, arith, sym, ap, subst, ◌∙◌}
use Rattle.std.specs.Int.{w128}
use Rattle.std.specs.Prelude.{unsigned_abs}
use Rattle.std.proofs.lemmas.Int.{to_z-of_z, fits_signed_from_abs}
use Rattle.font_set.specs.LocalKey.{local_design}
use Rattle.font_set.proofs.Points.{fit, below, int32, product_fits, total_fits, design_is, design_small, no_overflow}
use Rattle.font_set.proofs.local.design_units.Goals as goal

pub overflow_mul-above-3 : goal.overflow_mul-above-3
overflow_mul-above-3 c =
    let num : c.from-num.result ≡ c.args.units.now.num = search rules in
    let den : c.from.result ≡ c.args.units.now.den = search rules in
    let design : c.from-2.result ≡ c.args.design = search rules in
    product_fits c.from-num.result c.from.result c.from-2.result
    (subst (λ (z : ℤ). unsigned_abs z < 2 ^ 31) (sym num) (below c.args.units.now.num (2 ^ 31) c.requires.usable.num c.requires.num))
    (subst (λ (z : ℤ). unsigned_abs z < 2 ^ 31) (sym den) (below c.args.units.now.den (2 ^ 31) c.requires.usable.den c.requires.den))
    (subst (λ (z : ℤ). unsigned_abs z ≤ 2 ^ 31) (sym design) (int32 c.args.design c.ranges.design))

pub overflow_add-above : goal.overflow_add-above
overflow_add-above c =
    let num : c.from-num.result ≡ c.args.units.now.num = search rules in
    let den : c.from.result ≡ c.args.units.now.den = search rules in
    let design : c.from-2.result ≡ c.args.design = search rules in
    total_fits c.from-num.result c.from.result c.from-2.result
    (subst (λ (z : ℤ). unsigned_abs z < 2 ^ 31) (sym num) (below c.args.units.now.num (2 ^ 31) c.requires.usable.num c.requires.num))
    (subst (λ (z : ℤ). unsigned_abs z < 2 ^ 31) (sym den) (below c.args.units.now.den (2 ^ 31) c.requires.usable.den c.requires.den))
    (subst (λ (z : ℤ). unsigned_abs z ≤ 2 ^ 31) (sym design) (int32 c.args.design c.ranges.design))

pub div_euclid-requires-clause-no_overflow : goal.div_euclid-requires-clause-no_overflow
div_euclid-requires-clause-no_overflow c =
    let num : c.from-num.result ≡ c.args.units.now.num = search rules in
    λ e. absurd
    (no_overflow c.from-num.result
    (subst (λ (z : ℤ). unsigned_abs z < 2 ^ 31) (sym num) (below c.args.units.now.num (2 ^ 31) c.requires.usable.num c.requires.num))
    (subst (λ (z : ℤ). pos 0 <ℤ z) (sym num) c.requires.usable.num) e)

pub overflow_cast-result : goal.overflow_cast-result
overflow_cast-result c =
    let num : c.from-num.result ≡ c.args.units.now.num = search rules in
    let den : c.from.result ≡ c.args.units.now.den = search rules in
    let design : c.from-2.result ≡ c.args.design = search rules in
    let small_n = subst (λ (z : ℤ). unsigned_abs z < 2 ^ 31) (sym num) (below c.args.units.now.num (2 ^ 31) c.requires.usable.num c.requires.num) in
    let small_e = subst (λ (z : ℤ). unsigned_abs z < 2 ^ 31) (sym den) (below c.args.units.now.den (2 ^ 31) c.requires.usable.den c.requires.den) in
    let small_d = subst (λ (z : ℤ). unsigned_abs z ≤ 2 ^ 31) (sym design) (int32 c.args.design c.ranges.design) in
    let is : c.div_euclid.result ≡ local_design c.from-num.result c.from.result c.from-2.result = c.div_euclid.ensures ∙ design_is c.from-num.result c.from.result c.from-2.result small_n small_e small_d in
    let some = subst (λ (z : ℤ). pos 0 <ℤ z) (sym num) c.requires.usable.num in
    let less : unsigned_abs c.div_euclid.result < 2 ^ 63 = subst (λ (z : ℤ). unsigned_abs z < 2 ^ 63) (sym is) (design_small c.from-num.result c.from.result c.from-2.result some small_n small_e small_d) in
    let back : to_z w128 (of_z w128 c.div_euclid.result) ≡ c.div_euclid.result = fit c.div_euclid.result (omega (arith, less)) in
    let fits : FitsSigned w64 c.div_euclid.result = fits_signed_from_abs w64 c.div_euclid.result (omega (arith, less)) in
    subst (λ (z : ℤ). FitsSigned w64 z) (sym back) fits

pub returns : goal.returns
returns c =
    let num : c.from-num.result ≡ c.args.units.now.num = search rules in
    let den : c.from.result ≡ c.args.units.now.den = search rules in
    let design : c.from-2.result ≡ c.args.design = search rules in
    let small_n = subst (λ (z : ℤ). unsigned_abs z < 2 ^ 31) (sym num) (below c.args.units.now.num (2 ^ 31) c.requires.usable.num c.requires.num) in
    let small_e = subst (λ (z : ℤ). unsigned_abs z < 2 ^ 31) (sym den) (below c.args.units.now.den (2 ^ 31) c.requires.usable.den c.requires.den) in
    let small_d = subst (λ (z : ℤ). unsigned_abs z ≤ 2 ^ 31) (sym design) (int32 c.args.design c.ranges.design) in
    let is : c.div_euclid.result ≡ local_design c.from-num.result c.from.result c.from-2.result = c.div_euclid.ensures ∙ design_is c.from-num.result c.from.result c.from-2.result small_n small_e small_d in
    let some = subst (λ (z : ℤ). pos 0 <ℤ z) (sym num) c.requires.usable.num in
    let less : unsigned_abs c.div_euclid.result < 2 ^ 63 = subst (λ (z : ℤ). unsigned_abs z < 2 ^ 63) (sym is) (design_small c.from-num.result c.from.result c.from-2.result some small_n small_e small_d) in
    let back : to_z w128 (of_z w128 c.div_euclid.result) ≡ c.div_euclid.result = fit c.div_euclid.result (omega (arith, less)) in
    let fits : FitsSigned w64 c.div_euclid.result = fits_signed_from_abs w64 c.div_euclid.result (omega (arith, less)) in
    ap (λ (z : ℤ). to_z w64 (of_z w64 z)) back ∙ to_z-of_z w64 c.div_euclid.result fits ∙ is
    ∙ ap (λ (z : ℤ). local_design z c.from.result c.from-2.result) num ∙ ap (λ (z : ℤ). local_design c.args.units.now.num z c.from-2.result) den
    ∙ ap (λ (z : ℤ). local_design c.args.units.now.num c.args.units.now.den z) design
