-- What a planner has planned of the pages that it was given.
use Rattle.std.specs.Prelude.{◌≡◌, ℕ, ◌<◌, ◌≤◌, ◌-◌, ◌⊎◌, List, [], ◌∷◌, ◌++◌, length, take, drop, Option, IsTrue}
use Rattle.std.specs.List.{sum}
use Rattle.font_set.specs.Fonts.{FontSet}
use Rattle.positions.specs.Mark.{Mark}
use Rattle.sections.specs.Used.{Used, HasTaken}
use Rattle.sections.specs.Cost.{IsPriced}
use Rattle.sections.specs.Sections.{is_few, all_marks, pages_cost, sections}

-- A planner: the budget and the limit of a section's pages, what the last section uses, and the numbers of pages of the sections so far.
pub record Planning : Type 0 where
  pub budget : ℕ
  pub most : Option ℕ
  pub last : Used
  pub lengths : List ℕ

-- how many pages were given
abbrev pub pages_given : Planning → ℕ
pages_given p = sum p.lengths

-- The last section has the last of the pages, and those before it are closed, with the first ones: whatever pages follow, the sections of the last pages and them are
-- the sections behind the closed ones.
pub record IsOpen (set : FontSet) (p : Planning) (pages : List (List Mark)) : Type 0 where
  pub closed : List ℕ
  pub first_pages : List (List Mark)
  pub last_pages : List (List Mark)
  pub splits : pages ≡ first_pages ++ last_pages
  pub many : sum closed ≡ length first_pages
  pub lengths : p.lengths ≡ closed ++ length last_pages ∷ []
  pub some : 0 < length last_pages
  pub light : pages_cost set last_pages ≤ p.budget
  pub few : IsTrue (is_few p.most (length last_pages))
  pub taken : HasTaken p.last (all_marks last_pages)
  pub closing : (rest : List (List Mark)) → sections set p.budget p.most (pages ++ rest) ≡ closed ++ sections set p.budget p.most (last_pages ++ rest)

-- No page was given yet.
pub record IsFresh (p : Planning) (pages : List (List Mark)) : Type 0 where
  pub none : pages ≡ []
  pub lengths : p.lengths ≡ []

-- The planner was given these pages, each by its marks, and planned them for this set of fonts.
pub record IsPlanned (set : FontSet) (p : Planning) (pages : List (List Mark)) : Type 0 where
  pub priced : IsPriced set p.last
  pub so_far : IsFresh p pages ⊎ IsOpen set p pages

-- the pages of the last section: those behind the pages of all sections before it
abbrev pub pages_of_last : List ℕ → List (List Mark) → List (List Mark)
pages_of_last plan pages = drop (sum (take (length plan - 1) plan)) pages

-- Where a plan has a section, what was taken is what the pages of its last one use, and nothing else.
abbrev pub UsesLast : Used → List ℕ → List (List Mark) → Type 0
UsesLast u plan pages = 0 < length plan → HasTaken u (all_marks (pages_of_last plan pages))
