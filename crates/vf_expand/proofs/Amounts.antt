-- An amount of a packet is below 2^39 in size.
use Rattle.std.proofs.Common.{ℕ, zero, suc, ◌+◌, ◌-◌, ◌*◌, ◌/◌, ◌^◌, ◌<◌, ◌≤◌, ℤ, pos, negsuc, ◌+ℤ◌, ◌*ℤ◌, FitsSigned, w32, arith, refl}
use Rattle.std.specs.Prelude.{unsigned_abs}
use Rattle.std.proofs.lemmas.Int.{ints}
use Rattle.std.proofs.lemmas.Nat.{mul-le}
use Rattle.dv_base.specs.Scale.{halvings, first_byte, other_bytes, scaled}
use Rattle.dv_base.specs.ScaleLaws.{halvings-least}
use Rattle.dv_base.proofs.Products.{powers, halvings-bound, whole_part}

other_small : (f : ℤ) → other_bytes f ≤ 2 ^ 24
other_small (pos n) = omega (arith, ints)
other_small (negsuc n) = omega (arith, ints)

part_small : (k n : ℕ) → k ≤ 4 → n ≤ 2 ^ 47 → n / 2 ^ (20 - k) ≤ 2 ^ 31
part_small zero n few most = omega arith
part_small (suc zero) n few most = omega arith
part_small (suc (suc zero)) n few most = omega arith
part_small (suc (suc (suc zero))) n few most = omega arith
part_small (suc (suc (suc (suc zero)))) n few most = omega arith
part_small (suc (suc (suc (suc (suc k))))) n few most = absurd (omega arith)

sum_below : (a : ℕ) (b : ℤ) → a ≤ 2 ^ 31 → unsigned_abs b ≤ 2 ^ 38 → unsigned_abs (pos a +ℤ b) < 2 ^ 39
sum_below a (pos n) p q = omega (arith, ints)
sum_below a (negsuc n) p q = omega (arith, ints)

pub amount_small : (z : ℕ) (f : ℤ) → z < 2 ^ 27 → FitsSigned w32 f → unsigned_abs (scaled z f) < 2 ^ 39
unfolding scaled
amount_small z f bound fits =
    let few : halvings z ≤ 4 = halvings-bound z in
    let low : z / 2 ^ halvings z < 2 ^ 23 = (halvings-least z bound).small in
    let power = powers (halvings z) few in
    let most : z / 2 ^ halvings z * other_bytes f ≤ 2 ^ 23 * 2 ^ 24 = mul-le (z / 2 ^ halvings z) (other_bytes f) (2 ^ 23) (2 ^ 24) (omega arith) (other_small f) in
    let whole = (whole_part (first_byte f) f (2 ^ halvings z) (z / 2 ^ halvings z) refl fits power.0 low).1 in
    let whole_small = rw power.3 at whole in
    sum_below (z / 2 ^ halvings z * other_bytes f / 2 ^ (20 - halvings z)) (first_byte f *ℤ pos (2 ^ (4 + halvings z) * (z / 2 ^ halvings z)))
    (part_small (halvings z) (z / 2 ^ halvings z * other_bytes f) few (omega arith)) whole_small
