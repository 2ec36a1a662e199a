-- What the code of a conversion computes, against the definitions.
use Rattle.std.proofs.Common.{◌≡◌, ℕ, zero, suc, ◌+◌, ◌-◌, ◌*◌, ◌/◌, ◌^◌, ◌<◌, ◌≤◌, ℤ, pos, negsuc, ◌-ℤ◌, ◌≤ℤ◌, ◌<ℤ◌, arith, sym, subst, to_z, of_z, w64}
use Rattle.std.specs.Prelude.{unsigned_abs}
use Rattle.std.proofs.Math.Nat.{mul-le-mul}
use Rattle.std.proofs.lemmas.Int.{ints}
use Rattle.dv_base.specs.Rounding.{Fraction, IsFine, IsNearest, IsCeiling, half_up, rounded, ceiling}
use Rattle.dv_base.specs.RoundingLaws.{rounded-nearest, rounded-bound, half_up-bound, ceiling-least, ceiling-bound, ceiling_bound}
use Rattle.dv_base.specs.UnitPixels.{IsKept}

-- the fraction that is kept
abbrev pub kept : ℕ → ℕ → Fraction
kept t b = record { top = t; bottom = b }

pub kept-fine : (t b : ℕ) → IsKept t b → IsFine (kept t b)
kept-fine t b k = k.fine

half_up-fits : (f : Fraction) → IsFine f → (a : ℕ) → a < 2 ^ 40 → half_up f a < 2 ^ 63
half_up-fits f fine a small = omega (arith, half_up-bound f fine a)

-- The code rounds the size of a negative length, and changes the sign.
pub round_below : (f : Fraction) → IsFine f → (x : ℤ) (size q : ℕ) → q ≡ half_up f size → unsigned_abs x < 2 ^ 40 → size ≡ unsigned_abs x → x <ℤ pos 0 → to_z w64 (of_z w64 (pos 0 -ℤ to_z w64 q)) ≡ rounded f x
unfolding rounded
round_below f fine (pos a) size q whole small is negative = absurd (omega (arith, ints))
round_below f fine (negsuc a) size q whole small is negative =
    let fits : half_up f (suc a) < 2 ^ 63 = half_up-fits f fine (suc a) small in
    rw (whole, is) (omega (arith, ints, fits))

pub round_above : (f : Fraction) → IsFine f → (x : ℤ) (size q : ℕ) → q ≡ half_up f size → unsigned_abs x < 2 ^ 40 → size ≡ unsigned_abs x → pos 0 ≤ℤ x → to_z w64 q ≡ rounded f x
unfolding rounded
round_above f fine (pos a) size q whole small is positive =
    let fits : half_up f a < 2 ^ 63 = half_up-fits f fine a small in
    rw (whole, is) (omega (arith, ints, fits))
round_above f fine (negsuc a) size q whole small is positive = absurd (omega (arith, ints))

-- what the contract of `round` says, from its value
abbrev Rounds : Fraction → ℤ → ℤ → Type 0
Rounds f x r = (r ≡ rounded f x) × IsNearest f x r × IsFine f × (2 * unsigned_abs r * (2 ^ 31 - 1) ≤ unsigned_abs x * 2 ^ 31 + (2 ^ 31 - 1))

pub rounds : (f g : Fraction) → f ≡ g → IsFine f → (x r : ℤ) → r ≡ rounded f x → Rounds g x r
rounds f g same fine x r is =
    let here : Rounds f x r = (is, rw is (rounded-nearest f x fine.positive), fine, rw is (rounded-bound f fine x)) in
    subst (λ (k : Fraction). Rounds k x r) same here

-- the same for `ceil`
ceil_fits_below : (f : Fraction) → IsFine f → (a : ℕ) → a < 2 ^ 40 → a * f.top / f.bottom < 2 ^ 63
ceil_fits_below f fine a small =
    let some : 0 < f.bottom = fine.positive in
    omega (arith, ceiling_bound f.top f.bottom a (a * f.top / f.bottom) (2 ^ 31 - 1) (2 ^ 30) some (omega arith) (omega (arith, fine.fine)))

ceil_fits_above : (f : Fraction) → IsFine f → (a : ℕ) → a < 2 ^ 40 → (a * f.top + f.bottom - 1) / f.bottom < 2 ^ 63
ceil_fits_above f fine a small =
    let some : 0 < f.bottom = fine.positive in
    omega (arith, ceiling_bound f.top f.bottom a ((a * f.top + f.bottom - 1) / f.bottom) (2 ^ 31 - 1) (2 ^ 30) some (omega arith) (omega (arith, fine.fine)))

pub ceil_below : (f : Fraction) → IsFine f → (x : ℤ) (size q : ℕ) → q ≡ size * f.top / f.bottom → unsigned_abs x < 2 ^ 40 → size ≡ unsigned_abs x → x <ℤ pos 0 → to_z w64 (of_z w64 (pos 0 -ℤ to_z w64 q)) ≡ ceiling f x
unfolding ceiling
ceil_below f fine (pos a) size q whole small is negative = absurd (omega (arith, ints))
ceil_below f fine (negsuc a) size q whole small is negative =
    let fits : suc a * f.top / f.bottom < 2 ^ 63 = ceil_fits_below f fine (suc a) small in
    rw (whole, is) (omega (arith, ints, fits))

pub ceil_above : (f : Fraction) → IsFine f → (x : ℤ) (size q : ℕ) → q ≡ (size * f.top + f.bottom - 1) / f.bottom → unsigned_abs x < 2 ^ 40 → size ≡ unsigned_abs x → pos 0 ≤ℤ x → to_z w64 q ≡ ceiling f x
unfolding ceiling
ceil_above f fine (pos a) size q whole small is positive =
    let fits : (a * f.top + f.bottom - 1) / f.bottom < 2 ^ 63 = ceil_fits_above f fine a small in
    rw (whole, is) (omega (arith, ints, fits))
ceil_above f fine (negsuc a) size q whole small is positive = absurd (omega (arith, ints))

abbrev Ceils : Fraction → ℤ → ℤ → Type 0
Ceils f x r = (r ≡ ceiling f x) × IsCeiling f x r × IsFine f × (unsigned_abs r * (2 ^ 31 - 1) ≤ unsigned_abs x * 2 ^ 30 + (2 ^ 31 - 1))

pub ceils : (f g : Fraction) → f ≡ g → IsFine f → (x r : ℤ) → r ≡ ceiling f x → Ceils g x r
ceils f g same fine x r is =
    let here : Ceils f x r = (is, rw is (ceiling-least f x fine.positive), fine, rw is (ceiling-bound f fine x)) in
    subst (λ (k : Fraction). Ceils k x r) same here

-- a length above 0 has at least one pixel, since a unit has a length
above_some : (t b : ℕ) → IsKept t b → (x r : ℤ) → IsCeiling (kept t b) x r → pos 0 <ℤ x → pos 1 ≤ℤ r
above_some t b k (pos a) (pos zero) is up =
    let long : 1 ≤ a = omega (arith, ints) in
    let unit : 1 ≤ t = k.some in
    let more : 1 * 1 ≤ a * t = mul-le-mul long unit in
    absurd (omega (arith, ints, is.above))
above_some t b k (pos a) (pos (suc n)) is up = omega (arith, ints)
above_some t b k (pos a) (negsuc n) is up = absurd (omega (arith, ints, is.above))
above_some t b k (negsuc a) r is up = absurd (omega (arith, ints))

pub ceil_some : (t b : ℕ) (g : Fraction) → kept t b ≡ g → IsKept t b → (x r : ℤ) → IsCeiling g x r → pos 0 <ℤ x → pos 1 ≤ℤ r
ceil_some t b g same k x r is up = above_some t b k x r (subst (λ (f : Fraction). IsCeiling f x r) (sym same) is) up

-- a product of three numbers below 2^31, 2^31 and 2^14, and 2^31 - 1 times that, fit 128 bits
pub product_fits : (a b c k : ℕ) → a ≤ 2 ^ 31 → b ≤ 2 ^ 31 → c ≤ 2 ^ 14 → k ≤ 2 ^ 31 → a * b * c * k < 2 ^ 128
product_fits a b c k p q r s =
    let all : a * b * c * k ≤ 2 ^ 31 * 2 ^ 31 * 2 ^ 14 * 2 ^ 31 = mul-le-mul (mul-le-mul (mul-le-mul p q) r) s in
    omega arith
