-- An index of pages by number: pairs of a number and a place, in order. No public clause cites it.
use Rattle.std.specs.Prelude.{◌≡◌, ◌<◌, ℕ, ℤ, pos, List, length, slice_index_or, ◌⊎◌}
use Rattle.std.specs.List.{Contains, HoldsAt}
use Rattle.std.specs.List.Sorted.{IsSortedBy, IsPartitionPoint}
use Rattle.std.specs.Ordering.{int_cmp, nat_cmp, ordering_then, is_lt}
use Rattle.std.specs.declared.cmp.Ordering.{Ordering}
use Rattle.std.specs.declared.cmp.Ordering.TheVariants.{Less, Equal, Greater}

-- first by number, then by place
abbrev pub pair_cmp : ℤ × ℕ → ℤ × ℕ → Ordering
pair_cmp a b = ordering_then (int_cmp a.0 b.0) (nat_cmp a.1 b.1)

abbrev pub number_at : List ℤ → ℕ → ℤ
number_at numbers place = slice_index_or numbers place (pos 0)

-- the pairs are those of the numbers with their places, in order
pub record IsIndex (numbers : List ℤ) (pairs : List (ℤ × ℕ)) : Type 0 where
  pub sorted : IsSortedBy (λ a b. is_lt (pair_cmp a b)) pairs
  pub each : (k : ℕ) (d : ℤ × ℕ) → k < length pairs
      → ((slice_index_or pairs k d).1 < length numbers) × (number_at numbers (slice_index_or pairs k d).1 ≡ (slice_index_or pairs k d).0)
  pub all : (q : ℕ) → q < length numbers → Contains pairs (number_at numbers q, q)

-- Where a pair is looked for: it stands there, or those before are less, and those from there on greater.
abbrev pub IsNear : List (ℤ × ℕ) → ℤ × ℕ → ℕ → Type 0
IsNear pairs pair at =
    ((at < length pairs) × HoldsAt (λ y. pair_cmp y pair ≡ Equal) pairs at)
    ⊎ IsPartitionPoint (λ y. pair_cmp y pair ≡ Less) (λ y. pair_cmp y pair ≡ Greater) pairs at
