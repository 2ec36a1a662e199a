-- Pixels whose excess is small stay where they are.
use Rattle.std.proofs.Common.{◌≡◌, ◌≤◌, ◌<◌, ◌+◌, ◌*◌, ◌^◌, inl, inr, ℕ, zero, suc, ℤ, pos, ◌+ℤ◌, ◌-ℤ◌, ◌*ℤ◌, ◌≤ℤ◌, ap, ◌∙◌, arith}
use Rattle.std.proofs.Math.Nat.{lt_of_mul-lt-mul_right}
use Rattle.std.proofs.Math.IntN.{*ℤ_comm, *ℤ-zero, suc_ℤ-*ℤ}
use Rattle.std.proofs.lemmas.Int.{unsigned_abs-mul}
use Rattle.std.specs.Prelude.{unsigned_abs}
use Rattle.std.proofs.lemmas.Int.{ints, clamps}
use Rattle.dv_base.specs.Brought.{brought}
use Rattle.dv_base.specs.Excess.{IsReach, Tells, excess}
use Rattle.dv_base.specs.Rounding.{Fraction, IsNearest, rounded}
use Rattle.dv_base.specs.RoundingLaws.{rounded-nearest}

one_more : (a : ℤ) (k : ℕ) → a *ℤ pos (suc k) ≡ a *ℤ pos k +ℤ a
one_more a k = *ℤ_comm a (pos (suc k)) ∙ suc_ℤ-*ℤ (pos k) a ∙ ap (λ (x : ℤ). x +ℤ a) (*ℤ_comm (pos k) a)

-- a sum, and a difference, times a number
pub sum_times : (a b : ℤ) (k : ℕ) → (a +ℤ b) *ℤ pos k ≡ a *ℤ pos k +ℤ b *ℤ pos k
sum_times a b zero = omega (arith, ints, *ℤ-zero (a +ℤ b), *ℤ-zero a, *ℤ-zero b)
sum_times a b (suc k) = omega (arith, ints, one_more (a +ℤ b) k, one_more a k, one_more b k, sum_times a b k)

pub less_times : (a b : ℤ) (k : ℕ) → (a -ℤ b) *ℤ pos k ≡ a *ℤ pos k -ℤ b *ℤ pos k
less_times a b k = let whole : (a -ℤ b) +ℤ b ≡ a = omega (arith, ints) in omega (arith, ints, sum_times (a -ℤ b) b k, ap (λ (x : ℤ). x *ℤ pos k) whole)

-- the excess of a sum
pub excess_sum : (f : Fraction) (x y n m : ℤ) → excess f (x +ℤ y) (n +ℤ m) ≡ excess f x n +ℤ excess f y m
excess_sum f x y n m = omega (arith, ints, sum_times n m f.bottom, sum_times x y f.top)

-- what is told of two excesses tells the sum, where that is small
pub told_sum : (a b x y : ℤ) → Tells a x → Tells b y → unsigned_abs (a +ℤ b) < 2 ^ 59 → a +ℤ b ≡ x +ℤ y
told_sum a b x y (inl h) (inl k) small = omega (arith, ints, h.1, k.1)
told_sum a b x y (inl h) (inr k) small = absurd (omega (arith, ints, h.0, h.1, k.1, small))
told_sum a b x y (inr h) (inl k) small = absurd (omega (arith, ints, h.1, k.0, k.1, small))
told_sum a b x y (inr h) (inr k) small = absurd (omega (arith, ints, h.1, k.1, small))

within_times : (d e b : ℕ) → 2 * (d * b) < (2 * e + 1) * b + b → d ≤ e
within_times d e b less = le_of_lt_suc d e (lt_of_mul-lt-mul_right b (omega (arith, less)))
  where
    le_of_lt_suc : (m n : ℕ) → m < suc n → m ≤ n
    le_of_lt_suc m n h = omega (arith, h)

-- a number of pixels that is so near the length is at most drift from the nearest
near_nearest : (f : Fraction) (x n r drift reach : ℤ) → 0 < f.bottom → IsReach f drift reach → pos 0 ≤ℤ drift → IsNearest f x r → unsigned_abs (excess f x n) ≤ unsigned_abs reach → unsigned_abs (n -ℤ r) ≤ unsigned_abs drift
near_nearest f x n r drift reach some is up nearest small =
    let apart : (n -ℤ r) *ℤ pos f.bottom ≡ excess f x n -ℤ excess f x r = omega (arith, ints, less_times n r f.bottom) in
    let size : unsigned_abs ((n -ℤ r) *ℤ pos f.bottom) ≡ unsigned_abs (n -ℤ r) * f.bottom = unsigned_abs-mul (n -ℤ r) (pos f.bottom) in
    let far : 2 * (unsigned_abs (n -ℤ r) * f.bottom) ≤ 2 * unsigned_abs reach + f.bottom = omega (arith, ints, apart, size, small, nearest.near) in
    within_times (unsigned_abs (n -ℤ r)) (unsigned_abs drift) f.bottom (omega (arith, far, is.within))

-- pixels stay where they are, where their excess is within the reach
pub stays : (f : Fraction) (x n drift reach : ℤ) → 0 < f.bottom → pos 0 ≤ℤ drift → IsReach f drift reach → unsigned_abs (excess f x n) ≤ unsigned_abs reach → brought (rounded f x) drift n ≡ n
unfolding brought
stays f x n drift reach some up is small =
    let near = near_nearest f x n (rounded f x) drift reach some is up (rounded-nearest f x some) small in
    omega (arith, ints, clamps, near)
