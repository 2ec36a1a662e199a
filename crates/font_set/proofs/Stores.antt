-- Fonts by their ids.
use Rattle.std.proofs.Common.{◌≡◌, ◌≤◌, ℕ, zero, suc, arith, List, [], ◌∷◌, length, Option, Some, None, slice_get, refl, sym, ap, subst}
use Rattle.std.specs.Prelude.{map}
use Rattle.std.specs.List.{AllByRecursion}
use Rattle.dvi_doc.specs.declared.font.FontKey.{FontKey}
use Rattle.font_set.specs.Fonts.{Entry, FontSet, size_at, state_at, key_at, size_in, state_in, entry_key, raster_bytes}
use Rattle.font_set.specs.Growth.{keys_now}
use Rattle.font_set.specs.Stored.{entry_of, entries_of, IsStored, AreStored, HaveWanted}
use Rattle.font_set.specs.declared.want.Want.{Want}
use Rattle.font_set.specs.declared.font.Font.{Font}

pub get_entry : (ps : List (FontKey × Font)) (id : ℕ) (k : FontKey) (f : Font) → Some (k, f) ≡ slice_get ps id → slice_get (entries_of ps) id ≡ Some (entry_of (k, f))
get_entry [] id k f e = absurd cc
get_entry (p ∷ ps) zero k f e = let same : (k, f) ≡ p = cc in ap (λ (q : FontKey × Font). Some (entry_of q)) (sym same)
get_entry (p ∷ ps) (suc id) k f e = get_entry ps id k f e

pub none_past : (ps : List (FontKey × Font)) (id : ℕ) → None ≡ slice_get ps id → length (entries_of ps) ≤ id
none_past [] id e = omega arith
none_past (p ∷ ps) zero e = absurd cc
none_past (p ∷ ps) (suc id) e = let h = none_past ps id e in omega (arith, h)

pub size_is : (set : FontSet) (id : ℕ) (e : Entry) → slice_get set.fonts id ≡ Some e → size_at set id ≡ e.key.size
unfolding size_at
size_is set id e h = ap size_in h

pub state_is : (set : FontSet) (id : ℕ) (e : Entry) → slice_get set.fonts id ≡ Some e → state_at set id ≡ e.state
unfolding state_at
state_is set id e h = ap state_in h

pub key_is : (set : FontSet) (id : ℕ) (e : Entry) → slice_get set.fonts id ≡ Some e → key_at set id ≡ e.key
unfolding key_at
key_is set id e h = ap entry_key h

pub stored_at : (es : List Entry) (id : ℕ) (e : Entry) → AllByRecursion IsStored es → slice_get es id ≡ Some e → IsStored e
stored_at [] id e a h = absurd cc
stored_at (x ∷ es) zero e a h = let s : x ≡ e = cc in subst IsStored s a.0
stored_at (x ∷ es) (suc id) e a h = stored_at es id e a.1 h

key_stands : (es : List Entry) (id : ℕ) (e : Entry) → slice_get es id ≡ Some e → slice_get (map (λ (x : Entry). x.key) es) id ≡ Some e.key
key_stands [] id e h = absurd cc
key_stands (x ∷ es) zero e h = let s : x ≡ e = cc in ap (λ (y : Entry). Some y.key) s
key_stands (x ∷ es) (suc id) e h = key_stands es id e h

pub stands : (set : FontSet) (id : ℕ) (e : Entry) → slice_get set.fonts id ≡ Some e → slice_get (keys_now set) id ≡ Some e.key
unfolding keys_now
stands set id e h = key_stands set.fonts id e h

pub size_key : (set : FontSet) (id : ℕ) → (key_at set id).size ≡ size_at set id
unfolding key_at size_at
size_key set id = by (slice_get set.fonts id)
  where
    by : (o : Option Entry) → (entry_key o).size ≡ size_in o
    by None = refl
    by (Some e) = refl

pub nothing_stored : (ps : List (FontKey × Font)) → ps ≡ [] → AreStored (entries_of ps) × (0 ≡ raster_bytes (entries_of ps)) × ((want : Want) → HaveWanted want (entries_of ps))
unfolding raster_bytes
nothing_stored ps e =
    subst (λ (qs : List (FontKey × Font)). AreStored (entries_of qs) × (0 ≡ raster_bytes (entries_of qs)) × ((want : Want) → HaveWanted want (entries_of qs))) (sym e)
    (record { few = omega arith; each = tt; room = omega arith }, refl, λ want. tt)
