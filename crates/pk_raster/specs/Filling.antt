-- How the rows of a glyph are filled: what the board shows of them at each moment. (No public clause cites this module: its words are those of the reader.)
use Rattle.std.specs.Prelude.{◌≡◌, ℕ, zero, suc, List, [], ◌∷◌, ◌++◌, ◌+◌, ◌-◌, ◌*◌, ◌^◌, ◌<◌, ◌≤◌, length, take, replicate}
use Rattle.std.specs.List.{concat, flat_map, AllByRecursion}
use Rattle.pk_raster.specs.Runs.{Item, Run, colours, repeats, Single, repeated}
use Rattle.bit_lanes.specs.Bits.{bits}
use Rattle.pk_raster.specs.Bits.{padded}
use Rattle.pk_raster.specs.declared.board.Board.{Board}
use Rattle.pk_raster.specs.declared.board.RasterFault.{RasterFault}
use Rattle.pk_raster.specs.declared.board.RasterFault.TheVariants as fault

-- The repeat counts r, with g more for the first row.
unfoldable pub more : ℕ → (ℕ → ℕ) → ℕ → ℕ
more g r zero = g + r zero
more g r (suc i) = r (suc i)

-- What items make behind a part of a row that has the repeat count g.
pub record Goes (w c : ℕ) (part : List ℕ) (g : ℕ) (items : List Item) (rows : List (List ℕ)) : Type 0 where
  pub base : List (List ℕ)
  pub joined : concat base ≡ part ++ colours c items
  pub wide : AllByRecursion (λ row. length row ≡ w) base
  pub single : Single w (length part) items
  pub once : 0 < g → repeats w (length part) items 0 ≡ 0
  pub all : rows ≡ repeated (more g (repeats w (length part) items)) base

-- The board shows the rows that are done, and the part of the next row.
pub record Shows (b : Board) (part : List ℕ) (made : List (List ℕ)) : Type 0 where
  pub row : bits b.row.items ≡ padded (8 * length b.row.items) part
  pub rows : bits b.rows.items ≡ flat_map (padded (8 * length b.row.items)) made
  pub filled : b.filled ≡ length part
  pub below : b.filled < b.width
  pub fits : b.width ≤ 8 * length b.row.items

-- Of a run of n pixels k are left to be laid.
pub record Mid (c n : ℕ) (old : Board) (part : List ℕ) (made : List (List ℕ)) (new : Board) (k : ℕ) : Type 0 where
  pub now : List ℕ
  pub news : List (List ℕ)
  pub shows : Shows new now (made ++ news)
  pub ahead : (is : List Item) (rows : List (List ℕ)) → Goes old.width c part old.repeat (Run n ∷ is) rows → (rest : List (List ℕ)) × (rows ≡ news ++ rest) × Goes old.width c now new.repeat (Run k ∷ is) rest
  pub back : (is : List Item) (rest : List (List ℕ)) → Goes old.width c now new.repeat (Run k ∷ is) rest → Goes old.width c part old.repeat (Run n ∷ is) (news ++ rest)
  pub single : (is : List Item) → Single old.width (length part) (Run n ∷ is) → (0 < old.repeat → repeats old.width (length part) (Run n ∷ is) 0 ≡ 0) → Single old.width (length now) (Run k ∷ is) × (0 < new.repeat → repeats old.width (length now) (Run k ∷ is) 0 ≡ 0)
  pub left : new.left + length news ≡ old.left
  pub sum : (length news + new.repeat) * old.width + length now + k ≡ old.repeat * old.width + length part + n
  pub width : new.width ≡ old.width

-- A run of n pixels is laid.
pub record Ran (c n : ℕ) (old : Board) (part : List ℕ) (made : List (List ℕ)) (new : Board) : Type 0 where
  pub now : List ℕ
  pub news : List (List ℕ)
  pub shows : Shows new now (made ++ news)
  pub ahead : (is : List Item) (rows : List (List ℕ)) → Goes old.width c part old.repeat (Run n ∷ is) rows → (rest : List (List ℕ)) × (rows ≡ news ++ rest) × Goes old.width (1 - c) now new.repeat is rest
  pub back : (is : List Item) (rest : List (List ℕ)) → Goes old.width (1 - c) now new.repeat is rest → Goes old.width c part old.repeat (Run n ∷ is) (news ++ rest)
  pub single : (is : List Item) → Single old.width (length part) (Run n ∷ is) → (0 < old.repeat → repeats old.width (length part) (Run n ∷ is) 0 ≡ 0) → Single old.width (length now) is × (0 < new.repeat → repeats old.width (length now) is 0 ≡ 0)
  pub left : new.left + length news ≡ old.left
  pub sum : (length news + new.repeat) * old.width + length now ≡ old.repeat * old.width + length part + n
  pub width : new.width ≡ old.width

-- The run passes the last row: its pixels are more than the rows that are left hold, and no rows that it makes are so few.
pub record Passes (c n : ℕ) (old : Board) (part : List ℕ) : Type 0 where
  pub sum : old.left * old.width < old.repeat * old.width + length part + n
  pub none : (is : List Item) (rows : List (List ℕ)) → Goes old.width c part old.repeat (Run n ∷ is) rows → old.left < length rows

abbrev pub PastIs : ℕ → ℕ → Board → List ℕ → RasterFault → Type 0
PastIs c n old part fault.RunsPast = Passes c n old part
PastIs c n old part fault.RunsShort = ⊥
PastIs c n old part fault.RepeatTwice = ⊥
PastIs c n old part fault.BadLength = ⊥
PastIs c n old part fault.OutOfMemory = Unit {0}

-- The row in work is ended.
pub record Ended (old new : Board) : Type 0 where
  pub rows : new.rows.items ≡ old.rows.items ++ concat (replicate (1 + old.repeat) old.row.items)
  pub row : new.row.items ≡ replicate (length old.row.items) 0
  pub left : new.left + (1 + old.repeat) ≡ old.left
  pub width : new.width ≡ old.width
  pub filled : new.filled ≡ 0
  pub repeat : new.repeat ≡ 0

-- Nothing is made yet.
pub record IsFresh (b : Board) : Type 0 where
  pub filled : b.filled ≡ 0
  pub repeat : b.repeat ≡ 0
  pub rows : b.rows.items ≡ []
  pub row : b.row.items ≡ replicate (length b.row.items) 0
  pub wide : 0 < b.width
  pub fits : b.width ≤ 8 * length b.row.items
  pub some : 0 < b.left
  pub limit : b.left * b.width < 2 ^ 40

-- The first rows of a plain raster.
pub record Copied (w n stride : ℕ) (given bytes : List ℕ) : Type 0 where
  pub made : List (List ℕ)
  pub joined : concat made ≡ take (n * w) given
  pub wide : AllByRecursion (λ row. length row ≡ w) made
  pub count : length made ≡ n
  pub shown : bits bytes ≡ flat_map (padded (8 * stride)) made
