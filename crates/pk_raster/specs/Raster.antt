-- The two rasters of a glyph with pixels, and what stands in one that is refused.
use Rattle.std.specs.Prelude.{◌≡◌, ℕ, List, [], ◌∷◌, ◌++◌, ◌+◌, ◌*◌, ◌<◌, ◌≤◌, ◌⊎◌, length, None}
use Rattle.std.specs.List.{concat, AllByRecursion}
use Rattle.pk_raster.specs.Runs.{Item, Run, Repeat, Single, Makes, pixels}
use Rattle.pk_raster.specs.Items.{item_at, InRepeat, Spells}
use Rattle.pk_raster.specs.declared.board.RasterFault.{RasterFault}
use Rattle.pk_raster.specs.declared.board.RasterFault.TheVariants as fault

-- The nybbles are a raster of these h rows: runs and repeats, and at most one nybble that isn't used. `whole` says that
-- the runs and repeats make no more than the rows, so no repeat stands behind the last run.
pub record IsRaster (dyn_f c w h : ℕ) (ns : List ℕ) (rows : List (List ℕ)) : Type 0 where
  pub items : List Item
  pub spare : List ℕ
  pub spelled : Spells dyn_f ns items spare
  pub few : length spare ≤ 1
  pub makes : Makes w c items rows
  pub height : length rows ≡ h
  pub whole : pixels w items ≡ h * w

-- The bits are these h rows of w pixels, one after another, and fewer than eight bits that aren't used.
pub record IsPlain (w h : ℕ) (given : List ℕ) (rows : List (List ℕ)) : Type 0 where
  pub spare : List ℕ
  pub joined : concat rows ++ spare ≡ given
  pub wide : AllByRecursion (λ row. length row ≡ w) rows
  pub height : length rows ≡ h
  pub few : length spare < 8

-- Reading stops once h rows are made. So the last item of these is reached before that.
abbrev pub Ends : ℕ → ℕ → List Item → Item → Type 0
Ends w h items last = (before : List Item) × (items ≡ before ++ last ∷ []) × (pixels w before < h * w)

-- With its last repeat a base row has two, or one begins inside a repeat; before the rows are made.
abbrev pub IsTwice : ℕ → ℕ → List Item → List ℕ → Type 0
IsTwice w h items rest = ((n : ℕ) × Ends w h items (Repeat n) × (Single w 0 items → ⊥)) ⊎ ((pixels w items < h * w) × InRepeat rest)

-- The last run makes more pixels than h rows have; or the last repeat makes as many, and the row that it repeats still has to stand.
abbrev pub IsPast : ℕ → ℕ → List Item → Type 0
IsPast w h items = ((n : ℕ) × Ends w h items (Run n) × (h * w < pixels w items)) ⊎ ((n : ℕ) × Ends w h items (Repeat n) × (h * w ≤ pixels w items))

-- What stands in the nybbles where a raster of runs is refused. Each speaks of the items from the raster's start up to
-- some place: then no item follows, and there are too few pixels; they pass the last row; a row has two repeats; they are
-- the whole glyph, and more than a nybble follows.
abbrev pub FaultIs : ℕ → ℕ → ℕ → List ℕ → RasterFault → Type 0
FaultIs dyn_f w h ns fault.RunsShort = (items : List Item) × (rest : List ℕ) × Spells dyn_f ns items rest × (item_at dyn_f rest ≡ None) × (InRepeat rest → ⊥) × (pixels w items < h * w)
FaultIs dyn_f w h ns fault.RunsPast = (items : List Item) × (rest : List ℕ) × Spells dyn_f ns items rest × IsPast w h items
FaultIs dyn_f w h ns fault.RepeatTwice = (items : List Item) × (rest : List ℕ) × Spells dyn_f ns items rest × IsTwice w h items rest
FaultIs dyn_f w h ns fault.BadLength = (items : List Item) × (rest : List ℕ) × Spells dyn_f ns items rest × (pixels w items ≡ h * w) × (1 < length rest)
FaultIs dyn_f w h ns fault.OutOfMemory = Unit {0}

-- What stands in the bits where a plain raster is refused.
abbrev pub PlainFaultIs : ℕ → ℕ → List ℕ → RasterFault → Type 0
PlainFaultIs w h given fault.RunsShort = length given < h * w
PlainFaultIs w h given fault.BadLength = h * w + 8 ≤ length given
PlainFaultIs w h given fault.RunsPast = ⊥
PlainFaultIs w h given fault.RepeatTwice = ⊥
PlainFaultIs w h given fault.OutOfMemory = Unit {0}
