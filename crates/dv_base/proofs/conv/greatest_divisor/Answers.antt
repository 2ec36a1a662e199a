-- Each step keeps the common divisors; where nothing is left, the greater number is the greatest of them.
use Rattle.std.proofs.Common.{arith}
use Rattle.std.proofs.lemmas.Nat.Gcd.{IsGcd-from_mod, IsGcd-from_zero}
use Rattle.dv_base.specs.LowestLaws.{gcd_from}
use Rattle.dv_base.proofs.conv.greatest_divisor.Goals as goal

pub loop-less-init : goal.loop-less-init
loop-less-init c = λ g is. is

pub loop-less-preserved : goal.loop-less-preserved
loop-less-preserved c = λ g is. c.loop-less.invariant g (IsGcd-from_mod c.loop-less.greater c.loop-less.less g is)

pub returns : goal.returns
returns c =
    gcd_from c.args.a c.args.b c.loop-less.greater (c.loop-less.invariant c.loop-less.greater (IsGcd-from_zero c.loop-less.greater c.loop-less.less (omega arith)))
