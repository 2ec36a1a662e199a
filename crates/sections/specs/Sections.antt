-- How pages are parted into sections: each section is the longest prefix of the pages that are left whose cost is within the budget and
-- whose number is within a limit.
use Rattle.std.specs.Prelude.{ℕ, zero, suc, ◌-◌, Bool, true, ◌&&◌, List, [], ◌∷◌, ◌++◌, length, take, Option, Some, None, nat_le, if◌then◌else◌}
use Rattle.font_set.specs.Fonts.{FontSet}
use Rattle.positions.specs.Mark.{Mark}
use Rattle.sections.specs.Cost.{marks_cost}

-- so many pages may stand in a section
abbrev pub is_few : Option ℕ → ℕ → Bool
is_few None n = true
is_few (Some most) n = nat_le n most

module _ {P : Type 0} (weight : List P → ℕ) (budget : ℕ) (most : Option ℕ) where
  -- the first n pages can be a section
  abbrev pub fits : List P → ℕ → Bool
  fits pages n = is_few most n && nat_le (weight (take n pages)) budget

  -- the greatest number from 1 to n that fits, 0 where none does
  abbrev pub greatest : List P → ℕ → ℕ
  greatest pages zero = 0
  greatest pages (suc n) = if fits pages (suc n) then suc n else greatest pages n

  -- how many pages the first section has
  abbrev pub longest : List P → ℕ
  longest pages = greatest pages (length pages)

  -- the numbers of pages of the sections of all but the first pages, which a section before them has
  abbrev pub parted : List P → ℕ → List ℕ
  parted [] skipped = []
  parted (p ∷ pages) zero = longest (p ∷ pages) ∷ parted pages (longest (p ∷ pages) - 1)
  parted (p ∷ pages) (suc skipped) = parted pages skipped

  -- The numbers of pages of the sections.
  unfoldable pub parts : List P → List ℕ
  parts pages = parted pages 0

-- the marks of all pages
abbrev pub all_marks : List (List Mark) → List Mark
all_marks [] = []
all_marks (page ∷ pages) = page ++ all_marks pages

-- The cost of pages, each given by its marks.
abbrev pub pages_cost : FontSet → List (List Mark) → ℕ
pages_cost set pages = marks_cost set (all_marks pages)

-- The numbers of pages of the sections, where each page is given by its marks.
abbrev pub sections : FontSet → ℕ → Option ℕ → List (List Mark) → List ℕ
sections set budget most pages = parts (pages_cost set) budget most pages
