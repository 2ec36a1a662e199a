-- That `gcd` is the greatest common divisor, and what follows for a fraction in lowest terms.
use Rattle.std.proofs.Common.{◌≡◌, ℕ, zero, suc, ◌*◌, ◌/◌, ◌%◌, ◌<◌, arith, refl}
use Rattle.std.specs.Int.{IsGcd}
use Rattle.std.proofs.lemmas.Nat.Gcd.{IsGcd-from_mod, IsGcd-from_zero, same_from_IsGcd}
use Rattle.std.proofs.Math.Nat.{div-mul_cancel}
use Rattle.dv_base.specs.Rounding.{Fraction}
use Rattle.dv_base.specs.Lowest.{euclid, gcd, lowest}

euclid_is : (steps a b : ℕ) → b < steps → IsGcd a b (euclid steps a b)
unfolding euclid
euclid_is zero a b few = absurd (omega arith)
euclid_is (suc steps) a zero few = IsGcd-from_zero a zero refl
euclid_is (suc steps) a (suc b) few = IsGcd-from_mod a (suc b) _ (euclid_is steps (suc b) (a % suc b) (omega arith))

pub gcd_is : (a b : ℕ) → IsGcd a b (gcd a b)
unfolding gcd
gcd_is a b = euclid_is (suc b) a b (omega arith)

-- another number that is it
pub gcd_from : (a b g : ℕ) → IsGcd a b g → g ≡ gcd a b
gcd_from a b g is = same_from_IsGcd a b g (gcd a b) is (gcd_is a b)

pub gcd_positive : (a b : ℕ) → 0 < b → 0 < gcd a b
gcd_positive a b some = positive (gcd a b) refl where
  positive : (g : ℕ) → g ≡ gcd a b → 0 < g
  positive zero e = (let whole : b / zero * zero ≡ b = rw e (div-mul_cancel (gcd a b) (gcd_is a b).1) in absurd (omega arith))
  positive (suc g) e = omega arith

-- the parts are those of the lowest, times the divisor
pub top_is : (f : Fraction) → (lowest f).top * gcd f.top f.bottom ≡ f.top
top_is f = div-mul_cancel (gcd f.top f.bottom) (gcd_is f.top f.bottom).0

pub bottom_is : (f : Fraction) → (lowest f).bottom * gcd f.top f.bottom ≡ f.bottom
bottom_is f = div-mul_cancel (gcd f.top f.bottom) (gcd_is f.top f.bottom).1
