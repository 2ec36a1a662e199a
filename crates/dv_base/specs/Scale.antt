-- Widths of characters (TFM format): a fix_word f stands for f / 2^20 of the size, and TeX computes its product with a size z
-- in a way that every program repeats to the last unit.
use Rattle.std.specs.Prelude.{ℕ, ◌+◌, ◌-◌, ◌*◌, ◌/◌, ◌^◌, ◌<◌, ◌≤◌, nat_lt, if◌then◌else◌, ℤ, pos, ◌+ℤ◌, ◌*ℤ◌, unsigned_abs}
use Rattle.std.specs.Int.{int_div_euclid, int_rem_euclid}

-- how often a size below 2^27 is halved, its rest dropped, until it is below 2^23
unfoldable pub halvings : ℕ → ℕ
halvings z =
    if nat_lt z (2 ^ 23) then 0
    else (if nat_lt z (2 ^ 24) then 1
    else (if nat_lt z (2 ^ 25) then 2
    else (if nat_lt z (2 ^ 26) then 3
    else 4)))

-- k is the least number of halvings that brings z below 2^23
pub record IsHalvings (z k : ℕ) : Type 0 where
  pub small : z / 2 ^ k < 2 ^ 23
  pub least : (j : ℕ) → z / 2 ^ j < 2 ^ 23 → k ≤ j

-- the first byte of a fix_word, with its sign, and the number in its other three bytes
abbrev pub first_byte : ℤ → ℤ
first_byte f = int_div_euclid f (pos (2 ^ 24))

abbrev pub other_bytes : ℤ → ℕ
other_bytes f = unsigned_abs (int_rem_euclid f (pos (2 ^ 24)))

-- the product of the size z, halved k times, with the fix_word f: of each part of f by itself, the smaller one cut
abbrev pub product : ℕ → ℕ → ℤ → ℤ
product k z f = pos (z * other_bytes f / 2 ^ (20 - k)) +ℤ first_byte f *ℤ pos (2 ^ (4 + k) * z)

-- the width that the fix_word f has at the size z
unfoldable pub scaled : ℕ → ℤ → ℤ
scaled z f = product (halvings z) (z / 2 ^ halvings z) f
