-- The functions `rounded` and `ceiling` give what IsNearest and IsCeiling ask for, and how large that is.
use Rattle.std.proofs.Common.{◌≡◌, ℕ, zero, suc, ◌+◌, ◌-◌, ◌*◌, ◌/◌, ◌^◌, ◌<◌, ◌≤◌, ℤ, pos, negsuc, ◌*ℤ◌, ◌≤ℤ◌, neg_ℤ, arith, refl}
use Rattle.std.specs.Prelude.{unsigned_abs}
use Rattle.std.proofs.Math.Nat.{mul-le-mul_left, mul-le-mul_right, le_of_mul-le-mul_left, div-lt_iff_lt-mul}
use Rattle.std.proofs.lemmas.Int.{ints}
use Rattle.std.proofs.lemmas.Nat.{le-div}
use Rattle.dv_base.specs.Rounding.{Fraction, IsFine, IsNear, IsNearest, IsCeiling, half_up, rounded, ceiling}

-- a product with a number that is not positive
pub neg_times : (a t : ℕ) → (neg_ℤ (pos a) *ℤ pos t) ≡ neg_ℤ (pos (a * t))
neg_times zero t = grind arith
neg_times (suc a) t = refl

pub unsigned_abs-neg : (n : ℕ) → unsigned_abs (neg_ℤ (pos n)) ≡ n
unsigned_abs-neg zero = refl
unsigned_abs-neg (suc n) = refl

-- the quotient by an even number is within it
pub half_up_low : (t b a : ℕ) → 0 < b → ((2 * a * t + b) / (2 * b)) * (2 * b) ≤ 2 * a * t + b
half_up_low t b a some = let even : 0 < 2 * b = omega arith in omega arith

pub half_up_high : (t b a : ℕ) → 0 < b → 2 * a * t + b < ((2 * a * t + b) / (2 * b)) * (2 * b) + 2 * b
half_up_high t b a some = let even : 0 < 2 * b = omega arith in omega arith

-- a length that is not negative
nearest_up : (t b a q : ℕ) → 0 < b → q ≡ (2 * a * t + b) / (2 * b) → q * (2 * b) ≤ 2 * a * t + b → 2 * a * t + b < q * (2 * b) + 2 * b → IsNearest (record { top = t; bottom = b }) (pos a) (pos q)
nearest_up t b a q some is low high = record { near = omega (arith, ints); furthest = further } where
  further : (m : ℤ) → IsNear (record { top = t; bottom = b }) (pos a) m → unsigned_abs m ≤ q
  further (pos m) near = rw is (le-div m (2 * a * t + b) (2 * b) (omega arith) (omega (arith, ints)))
  further (negsuc m) near = absurd (omega (arith, ints))

-- a length that is not positive
nearest_down : (t b a q : ℕ) → 0 < b → q ≡ (2 * a * t + b) / (2 * b) → q * (2 * b) ≤ 2 * a * t + b → 2 * a * t + b < q * (2 * b) + 2 * b → IsNearest (record { top = t; bottom = b }) (neg_ℤ (pos a)) (neg_ℤ (pos q))
nearest_down t b a q some is low high = record { near = rw (neg_times q b, neg_times a t) (omega (arith, ints)); furthest = further } where
  further : (m : ℤ) → IsNear (record { top = t; bottom = b }) (neg_ℤ (pos a)) m → unsigned_abs m ≤ unsigned_abs (neg_ℤ (pos q))
  further (pos zero) near = omega arith
  further (pos (suc m)) near = let near' = rw (neg_times a t) at near in absurd (omega (arith, ints, near'))
  further (negsuc m) near =
      let near' = rw (neg_times a t) at near in
      let most : suc m ≤ q = rw is (le-div (suc m) (2 * a * t + b) (2 * b) (omega arith) (omega (arith, ints, near'))) in
      omega (arith, ints)

ceiling_up : (t b a : ℕ) → 0 < b → IsCeiling (record { top = t; bottom = b }) (pos a) (pos ((a * t + b - 1) / b))
ceiling_up t b a some = record { above = omega (arith, ints); least = least } where
  least : (m : ℤ) → (pos a *ℤ pos t) ≤ℤ (m *ℤ pos b) → pos ((a * t + b - 1) / b) ≤ℤ m
  least (pos m) above =
      let next : (a * t + b - 1) / b < suc m = (div-lt_iff_lt-mul some).1 (omega (arith, ints)) in
      omega (arith, ints)
  least (negsuc m) above = absurd (omega (arith, ints))

ceiling_down : (t b a : ℕ) → 0 < b → IsCeiling (record { top = t; bottom = b }) (neg_ℤ (pos a)) (neg_ℤ (pos (a * t / b)))
ceiling_down t b a some = record { above = rw (neg_times a t, neg_times (a * t / b) b) (omega (arith, ints)); least = least } where
  least : (m : ℤ) → (neg_ℤ (pos a) *ℤ pos t) ≤ℤ (m *ℤ pos b) → neg_ℤ (pos (a * t / b)) ≤ℤ m
  least (pos m) above = omega (arith, ints)
  least (negsuc m) above =
      let above' = rw (neg_times a t) at above in
      let most : suc m ≤ a * t / b = le-div (suc m) (a * t) b some (omega (arith, ints, above')) in
      omega (arith, ints)

pub rounded-nearest : (f : Fraction) (x : ℤ) → 0 < f.bottom → IsNearest f x (rounded f x)
unfolding rounded
rounded-nearest f (pos a) some = nearest_up f.top f.bottom a (half_up f a) some refl (half_up_low f.top f.bottom a some) (half_up_high f.top f.bottom a some)
rounded-nearest f (negsuc a) some = nearest_down f.top f.bottom (suc a) (half_up f (suc a)) some refl (half_up_low f.top f.bottom (suc a) some) (half_up_high f.top f.bottom (suc a) some)

pub ceiling-least : (f : Fraction) (x : ℤ) → 0 < f.bottom → IsCeiling f x (ceiling f x)
unfolding ceiling
ceiling-least f (pos a) some = ceiling_up f.top f.bottom a some
ceiling-least f (negsuc a) some = ceiling_down f.top f.bottom (suc a) some

-- A fraction t / b that is at most P / M bounds what lengths become.
pub nearest_bound : (t b a q M P : ℕ) → 0 < b → q * (2 * b) ≤ 2 * a * t + b → t * M ≤ b * P → 2 * q * M ≤ a * (2 * P) + M
nearest_bound t b a q M P some low fine =
    let by_M : q * (2 * b) * M ≤ (2 * a * t + b) * M = mul-le-mul_right M low in
    let by_a : a * (t * M) ≤ a * (b * P) = mul-le-mul_left a fine in
    le_of_mul-le-mul_left {m = 2 * q * M} {n = a * (2 * P) + M} {k = b} (omega arith) some

pub ceiling_bound : (t b a q M P : ℕ) → 0 < b → q * b ≤ a * t + b → t * M ≤ b * P → q * M ≤ a * P + M
ceiling_bound t b a q M P some low fine =
    let by_M : q * b * M ≤ (a * t + b) * M = mul-le-mul_right M low in
    let by_a : a * (t * M) ≤ a * (b * P) = mul-le-mul_left a fine in
    le_of_mul-le-mul_left {m = q * M} {n = a * P + M} {k = b} (omega arith) some

-- the nearest whole number, by the fraction of a conversion: about half the length at most
pub half_up-bound : (f : Fraction) → IsFine f → (a : ℕ) → 2 * half_up f a * (2 ^ 31 - 1) ≤ a * 2 ^ 31 + (2 ^ 31 - 1)
half_up-bound f fine a = nearest_bound f.top f.bottom a (half_up f a) (2 ^ 31 - 1) (2 ^ 30) fine.positive (half_up_low f.top f.bottom a fine.positive) (omega (arith, fine.fine))

pub rounded-bound : (f : Fraction) → IsFine f → (x : ℤ) → 2 * unsigned_abs (rounded f x) * (2 ^ 31 - 1) ≤ unsigned_abs x * 2 ^ 31 + (2 ^ 31 - 1)
unfolding rounded
rounded-bound f fine (pos a) = half_up-bound f fine a
rounded-bound f fine (negsuc a) = rw (unsigned_abs-neg (half_up f (suc a))) (half_up-bound f fine (suc a))

pub ceiling-bound : (f : Fraction) → IsFine f → (x : ℤ) → unsigned_abs (ceiling f x) * (2 ^ 31 - 1) ≤ unsigned_abs x * 2 ^ 30 + (2 ^ 31 - 1)
unfolding ceiling
ceiling-bound f fine (pos a) =
    let some : 0 < f.bottom = fine.positive in
    ceiling_bound f.top f.bottom a ((a * f.top + f.bottom - 1) / f.bottom) (2 ^ 31 - 1) (2 ^ 30) some (omega arith) (omega (arith, fine.fine))
ceiling-bound f fine (negsuc a) =
    let some : 0 < f.bottom = fine.positive in
    rw (unsigned_abs-neg (suc a * f.top / f.bottom)) (ceiling_bound f.top f.bottom (suc a) (suc a * f.top / f.bottom) (2 ^ 31 - 1) (2 ^ 30) some (omega arith) (omega (arith, fine.fine)))
