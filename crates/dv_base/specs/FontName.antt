-- The names that a font may have.
use Rattle.std.specs.Prelude.{◌≡◌, ◌≤◌, ℕ, List, length}
use Rattle.std.specs.List.{All}

-- A font's name, its area included: 1 to 255 bytes, each a visible ASCII character other than '/'. (That is this program's own rule,
-- since the name becomes the name of a file.)
abbrev pub IsNameByte : ℕ → Type 0
IsNameByte byte = (33 ≤ byte) × (byte ≤ 126) × (byte ≡ 47 → ⊥)

abbrev pub IsFontName : List ℕ → Type 0
IsFontName name = (1 ≤ length name) × (length name ≤ 255) × All IsNameByte name
