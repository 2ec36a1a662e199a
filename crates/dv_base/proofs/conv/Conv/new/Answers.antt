-- Each of the four is below 2^31, and dpi is at most 10,000.
use Rattle.std.proofs.Common.{arith, ◌≡◌, ◌≤◌, ◌^◌}
use Rattle.std.specs.Prelude.{unsigned_abs}
use Rattle.std.proofs.lemmas.Int.{ints}
use Rattle.dv_base.proofs.Conversions.{product_fits}
use Rattle.dv_base.proofs.Divided.{kept_lowest, same_lowest, three_positive}
use Rattle.dv_base.specs.LowestLaws.{gcd_positive}
use Rattle.dv_base.proofs.conv.Conv.new.Goals as goal

pub overflow_mul-top-3 : goal.overflow_mul-top-3
overflow_mul-top-3 c =
    let num : c.in_ok-positive.field-0 ≤ 2 ^ 31 = omega (arith, ints, c.in_ok-positive.ensures.0) in
    let mag : c.in_ok-positive-2.field-0 ≤ 2 ^ 31 = omega (arith, ints, c.in_ok-positive-2.ensures.0) in
    let dpi : c.in_ok-top.field-0 ≤ 2 ^ 14 = omega (arith, ints, c.in_ok-top.ensures.0) in
    omega (arith, product_fits _ _ _ 2147483647 num mag dpi (omega arith))

pub nonzero_div-result : goal.nonzero_div-result
nonzero_div-result c = rw c.greatest_divisor-divisor.ensures (gcd_positive _ _ (omega arith))

pub nonzero_div-result-then-top-bottom : goal.nonzero_div-result-then-top-bottom
nonzero_div-result-then-top-bottom c = rw c.greatest_divisor-divisor.ensures (gcd_positive _ _ (omega arith))

pub invariant_of-result : goal.invariant_of-result
invariant_of-result c =
    let num = c.in_ok-positive.ensures in
    let mag = c.in_ok-positive-2.ensures in
    let dpi = c.in_ok-top.ensures in
    let den = c.in_ok-bottom.ensures in
    kept_lowest _ _ _ c.greatest_divisor-divisor.ensures (three_positive _ _ _ num.1 mag.1 dpi.1) (omega (arith, den)) (omega arith) (omega (arith, ints, den.0))

pub returns-then-top-bottom-clause-same : goal.returns-then-top-bottom-clause-same
returns-then-top-bottom-clause-same c =
    let num : unsigned_abs c.args.units.now.num ≡ c.in_ok-positive.field-0 = omega (arith, ints, c.in_ok-positive.ensures.0) in
    let mag : unsigned_abs c.args.units.now.mag ≡ c.in_ok-positive-2.field-0 = omega (arith, ints, c.in_ok-positive-2.ensures.0) in
    let dpi : unsigned_abs c.args.units.now.dpi ≡ c.in_ok-top.field-0 = omega (arith, ints, c.in_ok-top.ensures.0) in
    let den : unsigned_abs c.args.units.now.den ≡ c.in_ok-bottom.field-0 = omega (arith, ints, c.in_ok-bottom.ensures.0) in
    rw (num, mag, dpi, den) (same_lowest _ _ _ c.greatest_divisor-divisor.ensures)
