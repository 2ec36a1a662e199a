use Rattle.std.proofs.Common.{◌≤◌, ◌<◌, ◌^◌, ◌+◌, ◌*◌, arith, length}
use Rattle.std.proofs.Math.Nat.{pow-le-pow_right}
use Rattle.std.specs.Str.Parse.{digits_value}
use Rattle.specials.proofs.Digits.{below_power, fits_unit}
use Rattle.specials.proofs.dimensions.scaled_points.Goals as goal

pub overflow_mul-parts-2 : goal.overflow_mul-parts-2
overflow_mul-parts-2 c =
    let whole : digits_value 10 c.args.whole.now < 10 ^ 7 = below_power c.args.whole.now 7 c.requires.whole c.requires.few_whole in
    let part : digits_value 10 c.args.part.now < 10 ^ length c.args.part.now = below_power c.args.part.now (length c.args.part.now) c.requires.part (omega arith) in
    let ten : 10 ^ length c.args.part.now ≤ 10 ^ 6 = pow-le-pow_right (omega arith) c.requires.few_part in
    let fits : (c.from.result * c.pow-ten.result + c.from-2.result) * 65536 * c.args.ratio.0 < 2 ^ 128 =
    fits_unit c.from.result c.from-2.result c.pow-ten.result c.args.ratio.0
    (omega (arith, whole, c.from.ensures, c.decimal_value.ensures.value))
    (omega (arith, part, c.pow-ten.ensures, c.from-2.ensures, c.decimal_value-2.ensures.value))
    (omega (arith, ten, c.pow-ten.ensures)) c.requires.small.0 in
    omega (arith, fits)
