-- Two sets that have their fonts from the same files.
use Rattle.std.specs.Prelude.{◌≡◌, ◌≤◌, ◌<◌, ◌^◌, ℕ, length, Some}
use Rattle.dv_base.specs.Causes.{Rose}
use Rattle.dv_base.specs.Shelf.{Contents, Told}
use Rattle.dv_base.specs.declared.units.Units.{Units}
use Rattle.font_set.specs.Key.{Key}
use Rattle.font_set.specs.Fonts.{State, FontSet, key_at, place_of, state_at, raster_bytes, raster_bytes_in, IsLoaded}
use Rattle.font_set.specs.FontOf.{FontOf}
use Rattle.font_set.specs.Programs.{Program}
use Rattle.font_set.specs.Frames.{acts_of}
use Rattle.font_set.specs.Covers.{Covers}
use Rattle.font_set.specs.LoadFaults.{LoadFaultIs}
use Rattle.font_set.specs.declared.fault.FontFault.TheVariants as font
use Rattle.font_set.specs.declared.fault.LoadFault.{LoadFault}
use Rattle.font_set.specs.declared.fault.LoadFault.TheVariants as load
use Rattle.font_set.specs.declared.want.Want.{Want}

-- Each font that is loaded is what the files of its key tell.
abbrev pub AreRight : Contents → FontSet → Type 0
AreRight held set = (id : ℕ) → IsLoaded (state_at set id) → FontOf held set.units set.want (key_at set id) (state_at set id)

-- Both sets are for the same units and the same use, and their fonts are right.
pub record Alike (held : Contents) (a b : FontSet) : Type 0 where
  pub units : a.units ≡ b.units
  pub want : a.want ≡ b.want
  pub left : AreRight held a
  pub right : AreRight held b

-- Files tell at most one font of a key.
abbrev pub OneFontOf : Type 0
OneFontOf = (held : Contents) (units : Units) (want : Want) (key : Key) (s t : State) → FontOf held units want key s → FontOf held units want key t → s ≡ t

-- The font of a key, by its ids in both sets.
pub record Twin (a b : FontSet) (key : Key) (i j : ℕ) : Type 0 where
  pub left : place_of a.fonts key ≡ Some i
  pub right : place_of b.fonts key ≡ Some j

-- The font of the one set that has this id is known in the other, with as many bytes of bitmaps or more.
pub record HasTwin (a b : FontSet) (i : ℕ) : Type 0 where
  pub key : Key
  pub placed : place_of a.fonts key ≡ Some i
  pub id : ℕ
  pub there : place_of b.fonts key ≡ Some id
  pub bytes : raster_bytes_in (state_at a i) ≤ raster_bytes_in (state_at b id)

-- all fonts of the one set are
abbrev pub HaveTwins : FontSet → FontSet → Type 0
HaveTwins a b = (i : ℕ) → i < length a.fonts → HasTwin a b i

-- The fonts of a page can be had: those of b, which come from the same files as those of a, cover it, and are all that a has; they are
-- at most 1,000, and so are their bitmaps within the limit.
pub record CanBeHad (held : Contents) (a b : FontSet) (page : Program) : Type 0 where
  pub alike : Alike held a b
  pub covers : Covers b (acts_of page)
  pub twins : HaveTwins a b
  pub few : length b.fonts ≤ 1000
  pub room : raster_bytes b.fonts ≤ 2 ^ 30

-- Then a has no fault of the page but want of memory, where the shelf has none.
abbrev pub WhatCanBeHadIsHad : Type 0
WhatCanBeHadIsHad = (held : Contents) (a b : FontSet) (page : Program) (told later : Told) → CanBeHad held a b page → told.held ≡ Some held → (Rose told.faults later.faults → ⊥)
    → (e : LoadFault) → LoadFaultIs a page told later e → e ≡ load.Font font.OutOfMemory
