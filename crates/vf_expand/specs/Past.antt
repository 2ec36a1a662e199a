-- The pages on which what is kept was met.
use Rattle.std.specs.Prelude.{◌≤◌, ℕ, List, Option, Some, None, slice_get}
use Rattle.vf_expand.specs.declared.met.Met.{Met}
use Rattle.vf_expand.specs.declared.met.Start.{Start}

-- the page on which the character of a slot was met
abbrev pub page_in : Option Met → ℕ
page_in None = 0
page_in (Some m) = m.page

-- what is kept was met on this page or on one before it
pub record AreOfPages (page : ℕ) (ms : List Met) : Type 0 where
  pub each : (slot : ℕ) → page_in (slice_get ms slot) ≤ page

-- the page on which the virtual font of a slot was met
abbrev pub page_of : Option (Option Start) → ℕ
page_of None = 0
page_of (Some None) = 0
page_of (Some (Some s)) = s.page

pub record AreStartsOfPages (page : ℕ) (ss : List (Option Start)) : Type 0 where
  pub each : (slot : ℕ) → page_of (slice_get ss slot) ≤ page
