-- Pixels as bits.
use Rattle.std.specs.Prelude.{ℕ, Bool, List, ◌++◌, ◌-◌, length, replicate, if◌then◌else◌}

-- A pixel is 1 where it is black, and 0 where it is white.
abbrev pub colour : Bool → ℕ
colour black = if black then 1 else 0

-- A row of pixels with bits 0 behind it, up to n bits.
abbrev pub padded : ℕ → List ℕ → List ℕ
padded n row = row ++ replicate (n - length row) 0
