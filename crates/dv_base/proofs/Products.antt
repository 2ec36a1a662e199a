-- Products by one byte at a time, and sizes that are halved.
use Rattle.std.proofs.Common.{◌≡◌, ℕ, zero, suc, ◌+◌, ◌-◌, ◌*◌, ◌/◌, ◌%◌, ◌^◌, ◌<◌, ◌≤◌, ℤ, pos, negsuc, ◌+ℤ◌, ◌*ℤ◌, FitsSigned, to_z, of_z, w32, w64, arith, refl, ap, sym, ◌∙◌}
use Rattle.std.proofs.Math.Nat.{div-div-eq-div-mul, add-mul-div_left}
use Rattle.std.proofs.lemmas.Bool.Decides.{nat_tests}
use Rattle.std.proofs.lemmas.Nat.{shr-shr, shr_le}
use Rattle.std.specs.Prelude.{unsigned_abs}
use Rattle.std.proofs.lemmas.Int.{ints, to_z-of_z, to_z_pos, unsigned_abs-mul, fits_signed_from_abs}
use Rattle.std.proofs.lemmas.Nat.{mul-le}
use Rattle.dv_base.specs.Scale.{halvings, first_byte, other_bytes, scaled}

-- a cut quotient takes one more multiple of the divisor
next_byte : (x y m : ℕ) → 0 < m → x / m + y ≡ (x + m * y) / m
next_byte x y m some = sym (add-mul-div_left x y some)

spread : (l m h z : ℕ) → l * z + 256 * (m * z) + 65536 * (h * z) ≡ z * (l + 256 * m + 65536 * h)
spread l m h z = omega arith

pub by_bytes : (z bytes beta : ℕ) → ((bytes % 256 * z / 256 + bytes / 256 % 256 * z) / 256 + bytes / 65536 * z) / beta ≡ z * bytes / (65536 * beta)
by_bytes z bytes beta =
    let low = bytes % 256 in
    let middle = bytes / 256 % 256 in
    let high = bytes / 65536 in
    let first : low * z / 256 + middle * z ≡ (low * z + 256 * (middle * z)) / 256 = next_byte (low * z) (middle * z) 256 (omega arith) in
    let second : (low * z + 256 * (middle * z)) / 256 / 256 ≡ (low * z + 256 * (middle * z)) / 65536 = div-div-eq-div-mul _ 256 256 in
    let third : (low * z + 256 * (middle * z)) / 65536 + high * z ≡ (low * z + 256 * (middle * z) + 65536 * (high * z)) / 65536 = next_byte _ (high * z) 65536 (omega arith) in
    let parts : low + 256 * middle + 65536 * high ≡ bytes = omega arith in
    let whole : low * z + 256 * (middle * z) + 65536 * (high * z) ≡ z * bytes = spread low middle high z ∙ ap (λ n. z * n) parts in
    let last : z * bytes / 65536 / beta ≡ z * bytes / (65536 * beta) = div-div-eq-div-mul _ 65536 beta in
    rw (first, second, third, whole) last

pub halvings-small : (z : ℕ) → z < 2 ^ 23 → halvings z ≡ 0
unfolding halvings
halvings-small z small = grind (arith, nat_tests)

pub halvings-step : (z : ℕ) → 2 ^ 23 ≤ z → z < 2 ^ 27 → halvings z ≡ halvings (z / 2) + 1
unfolding halvings
halvings-step z large bound = grind (arith, nat_tests)

pub halvings-bound : (z : ℕ) → halvings z ≤ 4
unfolding halvings
halvings-bound z = grind (arith, nat_tests)

halvings-ahead : (k z : ℕ) → 2 ^ 23 ≤ z → z < 2 ^ 27 → k + 1 + halvings (z / 2) ≡ k + halvings z
halvings-ahead k z large bound = omega (arith, halvings-step z large bound)

-- one turn of the loop that halves
pub halved_once : (size k z : ℕ) → size < 2 ^ 27 → k + halvings z ≡ halvings size → z ≡ size / 2 ^ k → 2 ^ 23 ≤ z → (k + 1 + halvings (z / 2) ≡ halvings size) × (z / 2 ≡ size / 2 ^ (k + 1))
halved_once size k z bound ahead value large =
    let below : z ≤ size = rw value (shr_le size k) in
    (halvings-ahead k z large (omega arith) ∙ ahead, ap (λ n. n / 2) value ∙ shr-shr size k 1)

-- what TeX calls alpha and beta, after k halvings
pub powers : (k : ℕ) → k ≤ 4 → (2 ^ k ≤ 16) × (0 < 256 / (16 * 2 ^ k)) × (65536 * (256 / (16 * 2 ^ k)) ≡ 2 ^ (20 - k)) × (16 * 2 ^ k ≡ 2 ^ (4 + k))
powers zero few = (omega arith, omega arith, refl, refl)
powers (suc zero) few = (omega arith, omega arith, refl, refl)
powers (suc (suc zero)) few = (omega arith, omega arith, refl, refl)
powers (suc (suc (suc zero))) few = (omega arith, omega arith, refl, refl)
powers (suc (suc (suc (suc zero)))) few = (omega arith, omega arith, refl, refl)
powers (suc (suc (suc (suc (suc k))))) few = absurd (omega arith)

first_byte-small : (f : ℤ) → FitsSigned w32 f → unsigned_abs (first_byte f) ≤ 128
first_byte-small (pos n) fits = omega (arith, ints)
first_byte-small (negsuc n) fits = omega (arith, ints)

-- the product with the first byte, as the code has it
pub whole_part : (g f : ℤ) (p s : ℕ) → g ≡ first_byte f → FitsSigned w32 f → p ≤ 16 → s < 2 ^ 23 → (to_z w64 (of_z w64 g) *ℤ to_z w64 (16 * p * s) ≡ first_byte f *ℤ pos (16 * p * s)) × (unsigned_abs (first_byte f *ℤ pos (16 * p * s)) ≤ 2 ^ 38)
whole_part g f p s is fits few small =
    let ps : p * s ≤ 16 * 2 ^ 23 = mul-le p s 16 (2 ^ 23) few (omega arith) in
    let right : to_z w64 (16 * p * s) ≡ pos (16 * p * s) = to_z_pos w64 (16 * p * s) (omega arith) in
    let byte : unsigned_abs (first_byte f) ≤ 128 = first_byte-small f fits in
    let fits64 : FitsSigned w64 (first_byte f) = fits_signed_from_abs w64 (first_byte f) (omega arith) in
    let left : to_z w64 (of_z w64 (first_byte f)) ≡ first_byte f = to_z-of_z w64 (first_byte f) fits64 in
    let size : unsigned_abs (first_byte f *ℤ pos (16 * p * s)) ≡ unsigned_abs (first_byte f) * (16 * p * s) = unsigned_abs-mul (first_byte f) (pos (16 * p * s)) in
    let most : unsigned_abs (first_byte f) * (16 * p * s) ≤ 128 * (2 ^ 31) = mul-le _ _ 128 (2 ^ 31) byte (omega arith) in
    (rw (is, left, right) refl, omega arith)

pub whole_fits : (g f : ℤ) (p s : ℕ) → g ≡ first_byte f → FitsSigned w32 f → p ≤ 16 → s < 2 ^ 23 → FitsSigned w64 (to_z w64 (of_z w64 g) *ℤ to_z w64 (16 * p * s))
whole_fits g f p s is fits few small =
    let part = whole_part g f p s is fits few small in
    rw part.0 (fits_signed_from_abs w64 _ (omega (arith, part.1)))

abbrev whole : ℤ → ℕ → ℕ → ℤ
whole f p s = first_byte f *ℤ pos (16 * p * s)

sum_small : (a : ℕ) (b : ℤ) → a < 2 ^ 31 → unsigned_abs b ≤ 2 ^ 38 → FitsSigned w64 (pos a +ℤ b)
sum_small a (pos n) p q = fits_signed_from_abs w64 _ (omega (arith, ints))
sum_small a (negsuc n) p q = fits_signed_from_abs w64 _ (omega (arith, ints))

-- the sum of both parts, as the code has it
pub sum_is : (g f : ℤ) (p s a : ℕ) → g ≡ first_byte f → FitsSigned w32 f → p ≤ 16 → s < 2 ^ 23 → a < 2 ^ 31 → to_z w64 a +ℤ to_z w64 (of_z w64 (to_z w64 (of_z w64 g) *ℤ to_z w64 (16 * p * s))) ≡ pos a +ℤ whole f p s
sum_is g f p s a is fits few small part =
    let both = whole_part g f p s is fits few small in
    let fits64 : FitsSigned w64 (whole f p s) = fits_signed_from_abs w64 _ (omega (arith, both.1)) in
    rw (to_z_pos w64 a (omega arith), both.0, to_z-of_z w64 (whole f p s) fits64) refl

pub sum_fits : (g f : ℤ) (p s a : ℕ) → g ≡ first_byte f → FitsSigned w32 f → p ≤ 16 → s < 2 ^ 23 → a < 2 ^ 31 → FitsSigned w64 (to_z w64 a +ℤ to_z w64 (of_z w64 (to_z w64 (of_z w64 g) *ℤ to_z w64 (16 * p * s))))
sum_fits g f p s a is fits few small part =
    rw (sum_is g f p s a is fits few small part) (sum_small a (whole f p s) part (whole_part g f p s is fits few small).1)

pub scaled_is : (f : ℤ) (z k p s a : ℕ) → k ≡ halvings z → p ≡ 2 ^ k → s ≡ z / 2 ^ k → a ≡ s * other_bytes f / (65536 * (256 / (16 * p))) → pos a +ℤ whole f p s ≡ scaled z f
unfolding scaled
scaled_is f z k p s a times power size part =
    let few : k ≤ 4 = omega (arith, halvings-bound z) in
    let alpha_beta = powers k few in
    rw (← times, part, size, power, alpha_beta.2, alpha_beta.3) refl
