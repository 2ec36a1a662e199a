-- How a usage is kept. (No public clause cites this module.)
use Rattle.std.specs.Prelude.{◌≡◌, ℕ, ◌+◌, ◌*◌, ◌<◌, ◌≤◌, Bool, true, false, List, length, slice_index_or, vec_len, vec_capacity}
use Rattle.std.specs.List.{sum_by}
use Rattle.sections.specs.Below.{any_below}
use Rattle.sections.specs.Places.{StandsAt}
use Rattle.sections.specs.Used.{Used, is_used, price_of}
use Rattle.sections.specs.Cost.{total}
use Rattle.sections.specs.declared.usage.Usage.TheInside.{Inside}

-- a mark counts 1
abbrev pub one_if : Bool → ℕ
one_if true = 1
one_if false = 0

abbrev pub seen : Inside → Used
seen u = record { fonts = length u.fonts.items; prices = u.prices.items; taken = u.taken.items }

-- Each font has 256 prices and marks; a font is marked where one of its characters is; the places are those of the marks, each once, and
-- have room; and the cost is that of what is marked.
pub record IsKept (u : Inside) : Type 0 where
  pub few : length u.fonts.items ≤ 1000
  pub prices : length u.prices.items ≡ length u.fonts.items * 256
  pub taken : length u.taken.items ≡ length u.fonts.items * 256
  pub cheap : (p : ℕ) → slice_index_or u.prices.items p 0 ≤ 65695
  pub fonts : (id : ℕ) → id < length u.fonts.items → slice_index_or u.fonts.items id false ≡ any_below (is_used (seen u) id) 256
  pub placed : (p : ℕ) → slice_index_or u.taken.items p false ≡ true → StandsAt u.places.items p
  pub marked : (k : ℕ) → k < length u.places.items → slice_index_or u.taken.items (slice_index_or u.places.items k 0) false ≡ true
  pub count : vec_len u.places ≡ sum_by one_if u.taken.items
  pub room : length u.taken.items ≤ vec_capacity u.places
  pub cost : u.cost ≡ total (price_of (seen u)) (is_used (seen u)) (length u.fonts.items)
