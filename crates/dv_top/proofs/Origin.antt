-- The origin in pixels.
use Rattle.std.proofs.Common.{◌≡◌, ◌<◌, ◌≤◌, ◌*◌, ◌^◌, ℕ, ℤ, suc, pos, negsuc, arith, refl}
use Rattle.std.specs.Prelude.{unsigned_abs, ◌<ℤ◌, neg_ℤ}
use Rattle.std.proofs.lemmas.Int.{ints}
use Rattle.std.proofs.lemmas.Nat.{mul-le}
use Rattle.dv_base.specs.Rounding.{Fraction, half_up, rounded}
use Rattle.dv_top.specs.Printing.{origin_at}

pub half_small : (x dpi : ℕ) → x < 2 ^ 31 → dpi ≤ 10000 → half_up (record { top = dpi * 100; bottom = 473628672 }) x < 2 ^ 50
half_small x dpi a b =
    let product : 2 * x * (dpi * 100) ≤ 4294967296 * 1000000 = mul-le (2 * x) (dpi * 100) 4294967296 1000000 (omega (arith, a)) (omega (arith, b)) in
    omega (arith, product)

pub rounded_small : (x : ℤ) (dpi : ℕ) → unsigned_abs x < 2 ^ 31 → dpi ≤ 10000 → unsigned_abs (rounded (record { top = dpi * 100; bottom = 473628672 }) x) < 2 ^ 50
unfolding rounded
rounded_small (pos a) dpi h d = half_small a dpi h d
rounded_small (negsuc a) dpi h d = let small = half_small (suc a) dpi h d in omega (arith, ints, small)

pub origin_small : (x : ℤ) (dpi : ℕ) → unsigned_abs x < 2 ^ 31 → dpi ≤ 10000 → unsigned_abs (origin_at x dpi) < 2 ^ 63
origin_small x dpi h d = let small = rounded_small x dpi h d in omega (arith, ints, small, d)

-- the product in it is small
pub product_small : (x dpi : ℕ) → x < 2 ^ 31 → dpi ≤ 10000 → 2 * x * (dpi * 100) ≤ 4294967296 * 1000000
product_small x dpi a b = mul-le (2 * x) (dpi * 100) 4294967296 1000000 (omega (arith, a)) (omega (arith, b))

-- by the sign of the distance
pub rounded_negative : (f : Fraction) (x : ℤ) → x <ℤ pos 0 → rounded f x ≡ neg_ℤ (pos (half_up f (unsigned_abs x)))
unfolding rounded
rounded_negative f (pos a) h = absurd (omega (arith, ints, h))
rounded_negative f (negsuc a) h = refl

pub rounded_positive : (f : Fraction) (x : ℤ) → (x <ℤ pos 0 → ⊥) → rounded f x ≡ pos (half_up f (unsigned_abs x))
unfolding rounded
rounded_positive f (pos a) h = refl
rounded_positive f (negsuc a) h = absurd (h (omega (arith, ints)))
