-- Pixels that are brought near a rounded length, told by the bounds of a quotient.
use Rattle.std.proofs.Common.{◌≡◌, ℕ, ◌≤◌, inl, inr, ℤ, pos, negsuc, ◌+ℤ◌, ◌-ℤ◌, ◌≤ℤ◌, ◌<ℤ◌, ap, arith, subst}
use Rattle.std.specs.Prelude.{unsigned_abs}
use Rattle.std.specs.Int.{int_max}
use Rattle.std.proofs.lemmas.Int.{ints, clamps}
use Rattle.dv_base.specs.Brought.{IsWay, brought}
use Rattle.dv_base.specs.Rounding.{Fraction, half_up, rounded}

-- What leads from the numbers at most e from n, where these aren't below 0, to q: so far is n brought.
pub by_way : (n e way : ℤ) (least most q : ℕ) → pos 0 ≤ℤ e → pos 0 ≤ℤ (n +ℤ e) → least ≡ unsigned_abs (int_max (n -ℤ e) (pos 0)) → most ≡ unsigned_abs (n +ℤ e) → IsWay least most q way → n +ℤ way ≡ brought (pos q) e n
unfolding brought
by_way n e way least most q some up low high (inl h) = omega (arith, ints, clamps, h.0, h.1, h.2)
by_way n e way least most q some up low high (inr (inl h)) = omega (arith, ints, clamps, h.0, h.1)
by_way n e way least most q some up low high (inr (inr h)) = omega (arith, ints, clamps, h.0, h.1)

-- a length that is negative is rounded as one that isn't, and so are the pixels
turned_over : (t n m e p : ℤ) → pos 0 ≤ℤ e → m ≡ pos 0 -ℤ n → p ≡ brought t e m → pos 0 -ℤ p ≡ brought (pos 0 -ℤ t) e n
unfolding brought
turned_over t n m e p some turned near = omega (arith, ints, clamps, near, turned)

rounded_below : (f : Fraction) (x : ℤ) (size : ℕ) → size ≡ unsigned_abs x → x <ℤ pos 0 → pos 0 -ℤ pos (half_up f size) ≡ rounded f x
unfolding rounded
rounded_below f (pos a) size is negative = absurd (omega (arith, ints))
rounded_below f (negsuc a) size is negative = let same : half_up f size ≡ half_up f (unsigned_abs (negsuc a)) = ap (half_up f) is in omega (arith, ints, same)

rounded_above : (f : Fraction) (x : ℤ) (size : ℕ) → size ≡ unsigned_abs x → pos 0 ≤ℤ x → pos (half_up f size) ≡ rounded f x
unfolding rounded
rounded_above f (pos a) size is positive = ap (λ (k : ℕ). pos (half_up f k)) is
rounded_above f (negsuc a) size is positive = absurd (omega (arith, ints))

pub below : (f : Fraction) (x n m e p : ℤ) (size : ℕ) → pos 0 ≤ℤ e → size ≡ unsigned_abs x → x <ℤ pos 0 → m ≡ pos 0 -ℤ n → p ≡ brought (pos (half_up f size)) e m → pos 0 -ℤ p ≡ brought (rounded f x) e n
below f x n m e p size some is negative turned near =
    subst (λ (t : ℤ). pos 0 -ℤ p ≡ brought t e n) (rounded_below f x size is negative) (turned_over (pos (half_up f size)) n m e p some turned near)

pub above : (f : Fraction) (x n e p : ℤ) (size : ℕ) → size ≡ unsigned_abs x → pos 0 ≤ℤ x → p ≡ brought (pos (half_up f size)) e n → p ≡ brought (rounded f x) e n
above f x n e p size is positive near = subst (λ (t : ℤ). p ≡ brought t e n) (rounded_above f x size is positive) near

pub way_bound : (least most q : ℕ) (way : ℤ) → IsWay least most q way → unsigned_abs way ≤ 1
way_bound least most q way (inl h) = omega (arith, ints, h.0)
way_bound least most q way (inr (inl h)) = omega (arith, ints, h.0)
way_bound least most q way (inr (inr h)) = omega (arith, ints, h.0)
