-- What follows of sections, whatever the pages.
use Rattle.std.specs.Prelude.{◌≡◌, ℕ, ◌<◌, ◌≤◌, List, [], ◌∷◌, length, take, drop, Option, IsTrue}
use Rattle.font_set.specs.Fonts.{FontSet}
use Rattle.positions.specs.Mark.{Mark}
use Rattle.sections.specs.Sections.{is_few, pages_cost, sections}

-- Parted into these numbers, each section of the pages has a page, is within the budget and the limit, and none is left.
abbrev pub AreWithin : FontSet → ℕ → Option ℕ → List (List Mark) → List ℕ → Type 0
AreWithin set budget most pages [] = pages ≡ []
AreWithin set budget most pages (n ∷ ns) =
    (0 < n) × (n ≤ length pages) × (pages_cost set (take n pages) ≤ budget) × IsTrue (is_few most n) × AreWithin set budget most (drop n pages) ns

-- each page is within the budget by itself
abbrev pub EachWithin : FontSet → ℕ → List (List Mark) → Type 0
EachWithin set budget [] = Unit {0}
EachWithin set budget (page ∷ pages) = (pages_cost set (page ∷ []) ≤ budget) × EachWithin set budget pages

-- Where each page alone is within the budget, the sections have all pages, and each is within the budget and the limit.
abbrev pub SectionsAreWithin : Type 0
SectionsAreWithin =
    (set : FontSet) (budget : ℕ) (most : Option ℕ) (pages : List (List Mark)) → IsTrue (is_few most 1) → EachWithin set budget pages
    → AreWithin set budget most pages (sections set budget most pages)
