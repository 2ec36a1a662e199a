-- A page that is tried in the last section. (No public clause cites this module.)
use Rattle.std.specs.Prelude.{◌≡◌, ◌<◌, ◌≤◌, ◌⊎◌, ℕ, ◌+◌, ◌-◌, false, List, length, Option, IsTrue, slice_index_or}
use Rattle.font_set.specs.Fonts.{FontSet}
use Rattle.sections.specs.Used.{Used, is_used, Joined}
use Rattle.sections.specs.Cost.{cost}
use Rattle.sections.specs.Sections.{is_few}

-- the last number, 0 where there is none
abbrev pub last_length : List ℕ → ℕ
last_length ns = slice_index_or ns (length ns - 1) 0

-- A section of so many pages, which uses the old, takes one more, which uses the other, and then uses the new.
pub record IsTaken (set : FontSet) (budget : ℕ) (most : Option ℕ) (count : ℕ) (old other new : Used) : Type 0 where
  pub some : 0 < count
  pub few : IsTrue (is_few most (count + 1))
  pub joined : Joined old other new
  pub light : cost set (is_used new) ≤ budget

-- There is no section, or it has no room for a page, or costs too much with it.
abbrev pub IsRefused : FontSet → ℕ → Option ℕ → ℕ → Used → Used → Type 0
IsRefused set budget most count old other =
    (count ≡ 0) ⊎ ((is_few most (count + 1) ≡ false) ⊎ ((new : Used) × Joined old other new × (budget < cost set (is_used new))))
