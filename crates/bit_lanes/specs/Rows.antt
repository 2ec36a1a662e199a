-- Rows of bits, from one place in bytes to another.
use Rattle.std.specs.Prelude.{◌≡◌, ℕ, List, ◌+◌, ◌-◌, ◌*◌, ◌<◌, ◌++◌, take, drop, replicate}
use Rattle.bit_lanes.specs.Bits.{bit}

-- `width` bits from the place `start` on, and bits 0 behind them, `room` bits in all.
abbrev pub row_of : ℕ → ℕ → ℕ → List ℕ → List ℕ
row_of start width room xs = take width (drop start xs) ++ replicate (room - width) 0

-- The first n bytes show the bits from the place `start` on. (No public clause cites this.)
abbrev pub Shows : List ℕ → ℕ → ℕ → List ℕ → Type 0
Shows from start n to = (i : ℕ) → i < 8 * n → bit to i ≡ bit from (start + i)
