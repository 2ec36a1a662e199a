-- Pairs of a number and a place, by number.
use Rattle.std.specs.Prelude.{◌≡◌, ◌<◌, ◌/◌, ◌%◌, ◌^◌, ◌-ℤ◌, ℕ, ℤ, pos, List, length, slice_index_or}

abbrev pub number_at : List (ℤ × ℕ) → ℕ → ℤ
number_at pairs at = (slice_index_or pairs at (pos 0, 0)).0

-- two of the pairs have this number
abbrev pub StandsTwice : List (ℤ × ℕ) → ℤ → Type 0
StandsTwice pairs k = (i : ℕ) × (j : ℕ) × (i < j) × (j < length pairs) × (number_at pairs i ≡ k) × (number_at pairs j ≡ k)

-- the pair that a word of 64 bits holds: the number, counted from -2^31 up, in its upper half, and the place in its lower
abbrev pub pair_of : ℕ → ℤ × ℕ
pair_of word = (pos (word / 2 ^ 32) -ℤ pos (2 ^ 31), word % 2 ^ 32)
