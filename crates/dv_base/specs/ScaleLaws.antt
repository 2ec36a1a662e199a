-- The number of halvings is the least one that is enough.
use Rattle.std.proofs.Common.{ℕ, zero, suc, ◌/◌, ◌^◌, ◌<◌, ◌≤◌, arith}
use Rattle.std.proofs.lemmas.Bool.Decides.{nat_tests}
use Rattle.dv_base.specs.Scale.{halvings, IsHalvings}

halvings-at : (z : ℕ) → z < 2 ^ 27 → z / 2 ^ halvings z < 2 ^ 23
unfolding halvings
halvings-at z bound = grind (arith, nat_tests)

halvings-within_0 : (z : ℕ) → z < 2 ^ 23 → halvings z ≤ 0
unfolding halvings
halvings-within_0 z bound = grind (arith, nat_tests)

halvings-within_1 : (z : ℕ) → z < 2 ^ 24 → halvings z ≤ 1
unfolding halvings
halvings-within_1 z bound = grind (arith, nat_tests)

halvings-within_2 : (z : ℕ) → z < 2 ^ 25 → halvings z ≤ 2
unfolding halvings
halvings-within_2 z bound = grind (arith, nat_tests)

halvings-within_3 : (z : ℕ) → z < 2 ^ 26 → halvings z ≤ 3
unfolding halvings
halvings-within_3 z bound = grind (arith, nat_tests)

halvings-within_4 : (z : ℕ) → halvings z ≤ 4
unfolding halvings
halvings-within_4 z = grind (arith, nat_tests)

enough : (z j : ℕ) → z / 2 ^ j < 2 ^ 23 → halvings z ≤ j
enough z zero small = omega (arith, halvings-within_0 z (omega arith))
enough z (suc zero) small = omega (arith, halvings-within_1 z (omega arith))
enough z (suc (suc zero)) small = omega (arith, halvings-within_2 z (omega arith))
enough z (suc (suc (suc zero))) small = omega (arith, halvings-within_3 z (omega arith))
enough z (suc (suc (suc (suc j)))) small = omega (arith, halvings-within_4 z)

pub halvings-least : (z : ℕ) → z < 2 ^ 27 → IsHalvings z (halvings z)
halvings-least z bound = record { small = halvings-at z bound; least = enough z }
