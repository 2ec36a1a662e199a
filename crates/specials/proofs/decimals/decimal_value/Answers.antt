use Rattle.std.proofs.Common.{arith, length, ◌∙◌, ap}
use Rattle.std.specs.Str.Parse.{digits_value}
use Rattle.std.proofs.lemmas.List.{take_all}
use Rattle.specials.proofs.Digits.{below_power, small_front, digits_step, in_digits}
use Rattle.specials.proofs.decimals.decimal_value.Goals as goal

pub overflow_mul-value : goal.overflow_mul-value
overflow_mul-value c =
    let small = small_front c.args.digits.now c.loop-digit.digit-index c.requires.digits c.requires.few in
    let e = c.loop-digit.invariant in
    omega (arith, small, e)

pub overflow_add-value : goal.overflow_add-value
overflow_add-value c =
    let small = small_front c.args.digits.now c.loop-digit.digit-index c.requires.digits c.requires.few in
    let e = c.loop-digit.invariant in
    let r = in_digits c.args.digits.now c.loop-digit.digit-index c.requires.digits c.loop-digit-test.true in
    omega (arith, small, e, r.1, c.from.ensures)

pub loop-digit-preserved : goal.loop-digit-preserved
loop-digit-preserved c =
    let step = digits_step c.args.digits.now c.loop-digit.digit-index c.requires.digits c.loop-digit-test.true in
    let e = c.loop-digit.invariant in
    omega (arith, step, e, c.from.ensures)

pub returns-clause-value : goal.returns-clause-value
returns-clause-value c = c.loop-digit.invariant ∙ ap (digits_value 10) (take_all c.loop-digit.digit-index c.args.digits.now (omega arith))

pub returns-clause-small : goal.returns-clause-small
returns-clause-small c =
    let value = c.loop-digit.invariant ∙ ap (digits_value 10) (take_all c.loop-digit.digit-index c.args.digits.now (omega arith)) in
    rw value (below_power c.args.digits.now (length c.args.digits.now) c.requires.digits (omega arith))
