-- How far a raster of runs is read. (No public clause cites this module: its words are those of the reader.)
use Rattle.std.specs.Prelude.{◌≡◌, ◌≢◌, ℕ, List, [], ◌++◌, ◌+◌, ◌*◌, ◌<◌, ◌≤◌, length, drop}
use Rattle.pk_raster.specs.Runs.{Item, repeats, Single, pixels}
use Rattle.pk_raster.specs.Items.{Spells}
use Rattle.pk_raster.specs.Raster.{FaultIs}
use Rattle.pk_raster.specs.Filling.{Goes, Shows}
use Rattle.pk_raster.specs.declared.board.Board.{Board}
use Rattle.pk_raster.specs.declared.board.RasterFault.{RasterFault}
use Rattle.pk_raster.specs.declared.board.RasterFault.TheVariants as fault

-- A raster from a place on, where a part of a row with the repeat count g is made.
pub record Left (dyn_f c w : ℕ) (ns : List ℕ) (part : List ℕ) (g : ℕ) (rows : List (List ℕ)) : Type 0 where
  pub items : List Item
  pub spare : List ℕ
  pub spelled : Spells dyn_f ns items spare
  pub few : length spare ≤ 1
  pub goes : Goes w c part g items rows
  pub whole : pixels w items + g * w + length part ≡ length rows * w

-- All that the loop keeps.
pub record Reached (dyn_f c0 w h : ℕ) (ns : List ℕ) (at c : ℕ) (b : Board) : Type 0 where
  pub now : List ℕ
  pub made : List (List ℕ)
  pub shows : Shows b now made
  pub left : b.left + length made ≡ h
  pub done : List Item
  pub spelled : Spells dyn_f ns done (drop at ns)
  pub sum : pixels w done ≡ (length made + b.repeat) * w + length now
  pub ahead : (rows : List (List ℕ)) → Left dyn_f c0 w ns [] 0 rows → length rows ≡ h → (rest : List (List ℕ)) × (rows ≡ made ++ rest) × Left dyn_f c w (drop at ns) now b.repeat rest
  pub back : (rest : List (List ℕ)) → Left dyn_f c w (drop at ns) now b.repeat rest → Left dyn_f c0 w ns [] 0 (made ++ rest)
  pub single : (is : List Item) → Single w 0 (done ++ is) → Single w (length now) is × (0 < b.repeat → repeats w (length now) is 0 ≡ 0)
  pub width : b.width ≡ w
  pub closed : b.left ≡ 0 → (b.filled ≡ 0) × (b.repeat ≡ 0)
  pub within : at ≤ length ns
  pub room : 0 < b.left → b.repeat < b.left

-- Why a step refuses, and that no rows are right.
pub record Refuses (dyn_f c0 w h : ℕ) (ns : List ℕ) (e : RasterFault) : Type 0 where
  pub says : FaultIs dyn_f w h ns e
  pub none : e ≢ fault.OutOfMemory → (rows : List (List ℕ)) → Left dyn_f c0 w ns [] 0 rows → length rows ≡ h → ⊥
