-- What a set of fonts gains: the fonts that became known, and those that were loaded.
use Rattle.std.specs.Prelude.{◌≡◌, ◌<◌, ◌⊎◌, ℕ, length, Option, Some}
use Rattle.dv_base.specs.Shelf.{Contents, WhereHeld}
use Rattle.font_set.specs.Key.{Key}
use Rattle.font_set.specs.Fonts.{FontSet, place_of, key_at, state_at, IsLoaded}
use Rattle.font_set.specs.FontOf.{FontOf}
use Rattle.font_set.specs.Growth.{Extends}
use Rattle.font_set.specs.Programs.{Program}
use Rattle.font_set.specs.LoadFaults.{MustKnow, MustLoad}

-- Keys keep their ids, and what was loaded stays. A font that is loaded now was so before, or it is one of these, and it is what the
-- files of its key tell. A font that is known now was so before, or it has one of these keys.
pub record Gains (held : Option Contents) (old new : FontSet) (Loads : ℕ → Type 0) (Knows : Key → Type 0) : Type 0 where
  pub extends : Extends old new
  pub loads : (id : ℕ) → IsLoaded (state_at new id) → IsLoaded (state_at old id) ⊎ (Loads id × WhereHeld held (λ h. FontOf h new.units new.want (key_at new id) (state_at new id)))
  pub knows : (id : ℕ) → id < length new.fonts → (id < length old.fonts) ⊎ ((key : Key) × (place_of new.fonts key ≡ Some id) × Knows key)

-- A set gains for a page what must be known and loaded for it, and nothing else.
abbrev pub GainsFor : Option Contents → FontSet → FontSet → Program → Type 0
GainsFor held old new page = Gains held old new (MustLoad new page) (MustKnow new page)
