-- How a set grows: keys are made known, and fonts are loaded.
use Rattle.std.specs.Prelude.{◌≡◌, ◌≤◌, ℕ, List, map, length, Some, slice_get}
use Rattle.indexmap.specs.IndexSet.{insert_key}
use Rattle.font_set.specs.Key.{Key, same_key}
use Rattle.font_set.specs.Fonts.{Entry, FontSet, place_of, state_at, IsLoaded}

-- the keys of a set in the order of their ids
unfoldable pub keys_now : FontSet → List Key
keys_now set = map (λ (e : Entry). e.key) set.fonts

-- Keys keep their ids, and what is loaded stays.
pub record Extends (old new : FontSet) : Type 0 where
  pub units : new.units ≡ old.units
  pub want : new.want ≡ old.want
  pub more : length old.fonts ≤ length new.fonts
  pub keys : (k : Key) (i : ℕ) → place_of old.fonts k ≡ Some i → place_of new.fonts k ≡ Some i
  pub same : (i : ℕ) → IsLoaded (state_at old i) → slice_get new.fonts i ≡ slice_get old.fonts i

-- One key was made known: it is one of the keys, the last one where it is new.
pub record Learnt (old new : FontSet) (k : Key) : Type 0 where
  pub extends : Extends old new
  pub learns : keys_now new ≡ insert_key same_key (keys_now old) k

-- One font was loaded.
pub record Loaded (old new : FontSet) (id : ℕ) : Type 0 where
  pub extends : Extends old new
  pub keeps : keys_now new ≡ keys_now old
  pub loaded : IsLoaded (state_at new id)
