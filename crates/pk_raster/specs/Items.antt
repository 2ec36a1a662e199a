-- How nybbles spell runs and repeat counts. A nybble up to 13 begins a run, 14 a repeat count that follows as a packed
-- number, and 15 is the repeat count 1.
use Rattle.std.specs.Prelude.{◌≡◌, ℕ, List, [], ◌∷◌, ◌<◌, Option, None, Some, if◌then◌else◌, nat_lt, nat_eq}
use Rattle.pk_raster.specs.Numbers.{Found, packed}
use Rattle.pk_raster.specs.Runs.{Item, Run, Repeat}

-- The count of a repeat, which holds no repeat itself.
unfoldable pub count_at : ℕ → List ℕ → Found
count_at dyn_f [] = None
count_at dyn_f (i ∷ xs) = if nat_lt 13 i then None else packed dyn_f i xs

abbrev pub as_item : (ℕ → Item) → Found → Option (Item × List ℕ)
as_item make None = None
as_item make (Some r) = Some (make r.0, r.1)

-- The item at the front of nybbles, and the nybbles behind it.
unfoldable pub item_at : ℕ → List ℕ → Option (Item × List ℕ)
item_at dyn_f [] = None
item_at dyn_f (i ∷ xs) = if nat_eq i 15 then Some (Repeat 1, xs) else if nat_eq i 14 then as_item Repeat (count_at dyn_f xs) else as_item Run (packed dyn_f i xs)

-- The nybbles spell the items, and then come these.
unfoldable pub Spells : ℕ → List ℕ → List Item → List ℕ → Type 0
Spells dyn_f ns [] rest = ns ≡ rest
Spells dyn_f ns (i ∷ is) rest = (more : List ℕ) × (item_at dyn_f ns ≡ Some (i, more)) × Spells dyn_f more is rest

-- A repeat begins inside the repeat at the front.
unfoldable pub InRepeat : List ℕ → Type 0
InRepeat [] = ⊥
InRepeat (i ∷ []) = ⊥
InRepeat (i ∷ j ∷ xs) = (i ≡ 14) × (13 < j)
