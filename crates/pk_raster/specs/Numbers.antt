-- Packed numbers of a PK raster (T. Rokicki, "Packed (PK) font file format", TUGboat 6:3; also the program PKtype by the
-- same author): how nybbles spell the lengths of runs and the repeat counts.
use Rattle.std.specs.Prelude.{◌≡◌, ℕ, List, [], ◌∷◌, ◌+◌, ◌-◌, ◌*◌, ◌/◌, ◌%◌, ◌^◌, ◌≤◌, length, take, drop, Option, None, Some, if◌then◌else◌, nat_lt, nat_eq, min}

-- The nybbles of bytes, the high one of a byte first.
unfoldable pub nybbles : List ℕ → List ℕ
nybbles [] = []
nybbles (b ∷ bs) = b / 16 ∷ b % 16 ∷ nybbles bs

-- The number that nybbles spell behind a number already read.
abbrev pub behind : ℕ → List ℕ → ℕ
behind n [] = n
behind n (d ∷ ds) = behind (16 * n + d) ds

-- A value, and the nybbles behind it.
abbrev pub Found : Type 0
Found = Option (ℕ × List ℕ)

-- The first nybble that isn't 0, of a number that has k nybbles 0 before it: as many nybbles follow.
unfoldable pub long_from : ℕ → ℕ → ℕ → List ℕ → Found
long_from dyn_f k d xs = if nat_lt (length xs) k then None else Some (behind d (take k xs) + (13 - dyn_f) * 16 + dyn_f - 15, drop k xs)

-- A number that begins with nybbles 0, of which k are read.
unfoldable pub long : ℕ → ℕ → List ℕ → Found
long dyn_f k [] = None
long dyn_f k (d ∷ xs) = if nat_eq d 0 then long dyn_f (k + 1) xs else long_from dyn_f k d xs

-- A number of two nybbles, of which the first is i.
unfoldable pub pair : ℕ → ℕ → List ℕ → Found
pair dyn_f i [] = None
pair dyn_f i (d ∷ xs) = Some ((i - dyn_f - 1) * 16 + d + dyn_f + 1, xs)

-- The packed number that begins with the nybble i, where the glyph's flag byte gives dyn_f.
unfoldable pub packed : ℕ → ℕ → List ℕ → Found
packed dyn_f i xs = if nat_eq i 0 then long dyn_f 1 xs else if nat_lt dyn_f i then pair dyn_f i xs else Some (i, xs)

-- What the reader gives where this is found: nothing, or the number and the place behind it. A number from 2 ^ 40 on is
-- given as 2 ^ 40.
abbrev pub Reads : List ℕ → Found → Option (ℕ × ℕ) → Type 0
Reads ns found None = found ≡ None
Reads ns found (Some r) = (n : ℕ) × (found ≡ Some (n, drop r.1 ns)) × (r.0 ≡ min n (2 ^ 40)) × (r.1 ≤ length ns)
