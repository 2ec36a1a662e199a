-- Counts that stay once they are the greatest number of 64 bits.
use Rattle.std.specs.Prelude.{ℕ, ◌+◌, ◌-◌, ◌^◌, min}

-- the count after n more
abbrev pub counted : ℕ → ℕ → ℕ
counted count n = min (count + n) (2 ^ 64 - 1)
