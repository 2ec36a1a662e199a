-- A fraction in lowest terms.
use Rattle.std.specs.Prelude.{ℕ, zero, suc, ◌/◌, ◌%◌}
use Rattle.dv_base.specs.Rounding.{Fraction}

-- the greatest common divisor by Euclid's steps, of which so many are allowed; b + 1 are enough
unfoldable pub euclid : ℕ → ℕ → ℕ → ℕ
euclid zero a b = a
euclid (suc steps) a zero = a
euclid (suc steps) a (suc b) = euclid steps (suc b) (a % suc b)

unfoldable pub gcd : ℕ → ℕ → ℕ
gcd a b = euclid (suc b) a b

-- the same number, without a common divisor
abbrev pub lowest : Fraction → Fraction
lowest f = let g = gcd f.top f.bottom in record { top = f.top / g; bottom = f.bottom / g }
