-- What the reader of items answers. (No public clause cites this module: its words are those of the reader.)
use Rattle.std.specs.Prelude.{◌≡◌, ℕ, List, ◌^◌, ◌<◌, ◌≤◌, length, drop, min, None, Some}
use Rattle.pk_raster.specs.Runs.{Item, Run, Repeat}
use Rattle.pk_raster.specs.Items.{item_at, InRepeat}
use Rattle.pk_raster.specs.declared.items.Piece.{Piece}
use Rattle.pk_raster.specs.declared.items.Piece.TheVariants as piece
use Rattle.pk_raster.specs.declared.board.RasterFault.{RasterFault}
use Rattle.pk_raster.specs.declared.board.RasterFault.TheVariants as fault

-- The count of the item, 2 ^ 40 for all from there on.
abbrev pub IsItem : Piece → Item → Type 0
IsItem (piece.Run k) (Run n) = k ≡ min n (2 ^ 40)
IsItem (piece.Run k) (Repeat n) = ⊥
IsItem (piece.Repeat k) (Run n) = ⊥
IsItem (piece.Repeat k) (Repeat n) = k ≡ min n (2 ^ 40)

abbrev pub count_of : Piece → ℕ
count_of (piece.Run k) = k
count_of (piece.Repeat k) = k

-- Why there is no item.
abbrev pub Misses : ℕ → List ℕ → RasterFault → Type 0
Misses dyn_f xs fault.RunsShort = (item_at dyn_f xs ≡ None) × (InRepeat xs → ⊥)
Misses dyn_f xs fault.RepeatTwice = (item_at dyn_f xs ≡ None) × InRepeat xs
Misses dyn_f xs fault.RunsPast = ⊥
Misses dyn_f xs fault.BadLength = ⊥
Misses dyn_f xs fault.OutOfMemory = ⊥

-- The item at a place, and the place behind it.
pub record Takes (dyn_f : ℕ) (ns : List ℕ) (at : ℕ) (p : Piece) (next : ℕ) : Type 0 where
  pub item : Item
  pub count : IsItem p item
  pub positive : 0 < count_of p
  pub found : item_at dyn_f (drop at ns) ≡ Some (item, drop next ns)
  pub within : next ≤ length ns
