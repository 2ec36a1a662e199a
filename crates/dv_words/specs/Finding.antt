-- Looking for a page by its number.
use Rattle.std.specs.Prelude.{ℕ, suc, ℤ, List, [], ◌∷◌, Option, Some, None, nat_le, ◌&&◌, if◌then◌else◌}
use Rattle.std.specs.Ordering.{int_eq}

-- the first place from `start` on that has the number, where `place` is that of the list's first number
abbrev pub first_from : ℕ → ℕ → ℤ → List ℤ → Option ℕ
first_from place start wanted [] = None
first_from place start wanted (n ∷ ns) = if nat_le start place && int_eq n wanted then Some place else first_from (suc place) start wanted ns
