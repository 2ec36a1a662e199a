-- Where numbers stand in a list.
use Rattle.std.specs.Prelude.{◌≡◌, ◌<◌, ◌≤◌, ℕ, List, length, slice_index_or}

-- the number stands somewhere in the list
pub record StandsAt (places : List ℕ) (p : ℕ) : Type 0 where
  pub at : ℕ
  pub within : at < length places
  pub here : slice_index_or places at 0 ≡ p

-- it stands somewhere from a place on
pub record StandsFrom (places : List ℕ) (start p : ℕ) : Type 0 where
  pub at : ℕ
  pub behind : start ≤ at
  pub within : at < length places
  pub here : slice_index_or places at 0 ≡ p
