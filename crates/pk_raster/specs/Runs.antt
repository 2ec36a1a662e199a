-- What runs and repeat counts mean: the rows of a glyph, in whole lists.
use Rattle.std.specs.Prelude.{◌≡◌, ℕ, suc, List, [], ◌∷◌, ◌++◌, ◌+◌, ◌-◌, ◌*◌, ◌/◌, length, replicate, if◌then◌else◌, nat_eq}
use Rattle.std.specs.List.{concat, AllByRecursion}

-- A run of pixels of one colour, or a repeat count.
pub data Item : Type 0 where
  Run : (count : ℕ) → Item
  Repeat : (count : ℕ) → Item

-- The pixels of the runs, one after another. The first run has the colour c, and the colours alternate.
unfoldable pub colours : ℕ → List Item → List ℕ
colours c [] = []
colours c (Run n ∷ is) = replicate n c ++ colours (1 - c) is
colours c (Repeat n ∷ is) = colours c is

-- n where the two rows are one, else 0
abbrev pub where_same : ℕ → ℕ → ℕ → ℕ
where_same a b n = if nat_eq a b then n else 0

-- The repeat counts of base row i, where p pixels stand before the items. A count belongs to the row in which the next
-- pixel falls: with p pixels before it, to row p / w.
unfoldable pub repeats : ℕ → ℕ → List Item → ℕ → ℕ
repeats w p [] i = 0
repeats w p (Run n ∷ is) i = repeats w (p + n) is i
repeats w p (Repeat n ∷ is) i = where_same (p / w) i n + repeats w p is i

-- No base row has two repeat counts.
unfoldable pub Single : ℕ → ℕ → List Item → Type 0
Single w p [] = Unit {0}
Single w p (Run n ∷ is) = Single w (p + n) is
Single w p (Repeat n ∷ is) = (repeats w p is (p / w) ≡ 0) × Single w p is

-- Each row, and again as often as its count says.
unfoldable pub repeated : (ℕ → ℕ) → List (List ℕ) → List (List ℕ)
repeated counts [] = []
repeated counts (row ∷ rows) = replicate (1 + counts 0) row ++ repeated (λ i. counts (suc i)) rows

-- The items make these rows of w pixels: the pixels of the runs, cut every w into base rows, each standing once and as
-- often again as its repeat count says.
pub record Makes (w c : ℕ) (items : List Item) (rows : List (List ℕ)) : Type 0 where
  pub base : List (List ℕ)
  pub joined : concat base ≡ colours c items
  pub wide : AllByRecursion (λ row. length row ≡ w) base
  pub single : Single w 0 items
  pub all : rows ≡ repeated (repeats w 0 items) base

-- The pixels of the runs, with w for each time that a row stands again.
unfoldable pub pixels : ℕ → List Item → ℕ
pixels w [] = 0
pixels w (Run n ∷ is) = n + pixels w is
pixels w (Repeat n ∷ is) = n * w + pixels w is
