-- Bytes as bits, the highest bit of each byte first.
use Rattle.std.specs.Prelude.{ℕ, Bool, List, [], ◌∷◌, ◌++◌, ◌-◌, ◌/◌, ◌%◌, slice_index, nat_eq}
use Rattle.std.specs.List.{list_all}
use Rattle.std.specs.Int.{bit_at}

-- The bits of a byte, the highest first.
abbrev pub byte_bits : ℕ → List ℕ
byte_bits b = bit_at b 7 ∷ bit_at b 6 ∷ bit_at b 5 ∷ bit_at b 4 ∷ bit_at b 3 ∷ bit_at b 2 ∷ bit_at b 1 ∷ bit_at b 0 ∷ []

-- The bits of bytes, one byte after another.
unfoldable pub bits : List ℕ → List ℕ
bits [] = []
bits (b ∷ bs) = byte_bits b ++ bits bs

-- The bit at a place, 0 past the end.
unfoldable pub bit : List ℕ → ℕ → ℕ
bit bs i = bit_at (slice_index bs (i / 8)) (7 - i % 8)

-- Whether all of a list are 0: its bits, or its bytes.
abbrev pub all_zero : List ℕ → Bool
all_zero xs = list_all (λ x. nat_eq x 0) xs
