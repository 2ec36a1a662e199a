-- A font is loaded.
use Rattle.std.proofs.Common.{◌≡◌, ◌≤◌, ◌<◌, ◌+◌, ℕ, zero, suc, arith, List, [], ◌∷◌, length, Option, Some, None, slice_get, refl, sym, ap, subst, ◌∙◌, cond, nat_lt, not}
use Rattle.std.specs.Prelude.{map}
use Rattle.std.specs.List.{position_or_len, AllByRecursion}
use Rattle.std.proofs.lemmas.List.Sums.{sum_by-cons}
use Rattle.indexmap.specs.Layout.{set_value_at}
use Rattle.dv_base.specs.Shelf.{Contents, WhereHeld}
use Rattle.dv_base.specs.declared.units.Units.{Units}
use Rattle.dvi_doc.specs.declared.font.FontKey.{FontKey}
use Rattle.font_set.specs.Key.{Key, same_key}
use Rattle.font_set.specs.Fonts.{State, Entry, FontSet, place_of, state_at, state_in, entry_key, IsLoaded, raster_bytes, raster_bytes_in}
use Rattle.font_set.specs.Files.{with_state}
use Rattle.font_set.specs.FontOf.{FontOf, LoadsAs, Loads}
use Rattle.font_set.specs.Growth.{keys_now, Loaded}
use Rattle.font_set.specs.Stored.{AreStored, HasWanted, HaveWanted, IsStored, IsSound, entry_of, entries_of, state_of}
use Rattle.font_set.specs.declared.font.Font.{Font}
use Rattle.font_set.specs.declared.want.Want.{Want}

pub entries_set : (ps : List (FontKey × Font)) (id : ℕ) (f : Font) → entries_of (set_value_at ps id f) ≡ with_state (entries_of ps) id (state_of f)
entries_set [] id f = refl
entries_set (p ∷ ps) zero f = refl
entries_set (p ∷ ps) (suc id) f = ap (λ (es : List Entry). entry_of p ∷ es) (entries_set ps id f)

pub set_length : (es : List Entry) (id : ℕ) (s : State) → length (with_state es id s) ≡ length es
set_length [] id s = refl
set_length (e ∷ es) zero s = refl
set_length (e ∷ es) (suc id) s = ap suc (set_length es id s)

set_stored : (es : List Entry) (id : ℕ) (s : State) → IsSound s → AllByRecursion IsStored es → AllByRecursion IsStored (with_state es id s)
set_stored [] id s h a = tt
set_stored (e ∷ es) zero s h a = (record { key = a.0.key; sound = h }, a.1)
set_stored (e ∷ es) (suc id) s h a = (a.0, set_stored es id s h a.1)

no_bytes : (s : State) → s ≡ State.Known → raster_bytes_in s ≡ 0
no_bytes s e = ap raster_bytes_in e

pub set_bytes : (es : List Entry) (id : ℕ) (s : State) → id < length es → state_in (slice_get es id) ≡ State.Known → raster_bytes (with_state es id s) ≡ raster_bytes es + raster_bytes_in s
unfolding raster_bytes
set_bytes [] id s l k = absurd (omega arith)
set_bytes (e ∷ es) zero s l k =
    let f = λ (x : Entry). raster_bytes_in x.state in
    omega (arith, sum_by-cons f e es, sum_by-cons f (record { key = e.key; state = s }) es, no_bytes e.state k)
set_bytes (e ∷ es) (suc id) s l k =
    let f = λ (x : Entry). raster_bytes_in x.state in
    omega (arith, sum_by-cons f e es, sum_by-cons f e (with_state es id s), set_bytes es id s (omega arith) k)

pub stored_set : (es : List Entry) (id : ℕ) (s : State) → id < length es → state_in (slice_get es id) ≡ State.Known → IsSound s → raster_bytes es + raster_bytes_in s ≤ 1073741824 → AreStored es → AreStored (with_state es id s)
stored_set es id s l k h r a =
    record {
      few = omega (arith, set_length es id s, a.few);
      each = set_stored es id s h a.each;
      room = omega (arith, set_bytes es id s l k, r);
    }

pub wanted_set : (want : Want) (es : List Entry) (id : ℕ) (s : State) → HasWanted want s → HaveWanted want es → HaveWanted want (with_state es id s)
wanted_set want [] id s h a = tt
wanted_set want (e ∷ es) zero s h a = (h, a.1)
wanted_set want (e ∷ es) (suc id) s h a = (a.0, wanted_set want es id s h a.1)

-- ---- what a call of load says

pub loads_new : (held : Option Contents) (units : Units) (want : Want) (es : List Entry) (id : ℕ) (s : State) → id < length es → state_in (slice_get es id) ≡ State.Known → IsLoaded s
    → WhereHeld held (λ h. FontOf h units want (entry_key (slice_get es id)) s) → Loads held units want es (with_state es id s) id
loads_new held units want [] id s l k d w = absurd (omega arith)
loads_new held units want (e ∷ es) zero s l k d w = (refl, subst (λ (old : State). LoadsAs held units want e.key old s) (sym k) (d, w), refl)
loads_new held units want (e ∷ es) (suc id) s l k d w = (refl, loads_new held units want es id s (omega arith) k d w)

pub loads_same : (held : Option Contents) (units : Units) (want : Want) (es : List Entry) (id : ℕ) → IsLoaded (state_in (slice_get es id)) → Loads held units want es es id
loads_same held units want [] id d = absurd d
loads_same held units want (e ∷ es) zero d = (refl, by e.state d, refl)
  where
    by : (s : State) → IsLoaded s → LoadsAs held units want e.key s s
    by State.Known h = absurd h
    by (State.Real tfm pk) h = refl
    by (State.Virtual tfm vf) h = refl
loads_same held units want (e ∷ es) (suc id) d = (refl, loads_same held units want es id d)

place_set : (es : List Entry) (id : ℕ) (s : State) (k : Key) → position_or_len (λ (e : Entry). same_key k e.key) (with_state es id s) ≡ position_or_len (λ (e : Entry). same_key k e.key) es
place_set [] id s k = refl
place_set (e ∷ es) zero s k = refl
place_set (e ∷ es) (suc id) s k = ap (λ (n : ℕ). cond (not (same_key k e.key)) (1 + n) 0) (place_set es id s k)

keeps_place : (es : List Entry) (id : ℕ) (s : State) (k : Key) → place_of (with_state es id s) k ≡ place_of es k
unfolding place_of
keeps_place es id s k =
    let test = λ (e : Entry). same_key k e.key in
    ap (λ (n : ℕ). cond (nat_lt n (length (with_state es id s))) (Some n) None) (place_set es id s k)
    ∙ ap (λ (l : ℕ). cond (nat_lt (position_or_len test es) l) (Some (position_or_len test es)) None) (set_length es id s)

others : (es : List Entry) (id i : ℕ) (s : State) → state_in (slice_get es id) ≡ State.Known → IsLoaded (state_in (slice_get es i)) → slice_get (with_state es id s) i ≡ slice_get es i
others [] id i s k l = refl
others (e ∷ es) zero zero s k l = absurd (subst IsLoaded k l)
others (e ∷ es) zero (suc i) s k l = refl
others (e ∷ es) (suc id) zero s k l = refl
others (e ∷ es) (suc id) (suc i) s k l = others es id i s k l

keys_set : (es : List Entry) (id : ℕ) (s : State) → map (λ (e : Entry). e.key) (with_state es id s) ≡ map (λ (e : Entry). e.key) es
keys_set [] id s = refl
keys_set (e ∷ es) zero s = refl
keys_set (e ∷ es) (suc id) s = ap (λ (ks : List Key). e.key ∷ ks) (keys_set es id s)

state_set : (es : List Entry) (id : ℕ) (s : State) → id < length es → state_in (slice_get (with_state es id s) id) ≡ s
state_set [] id s l = absurd (omega arith)
state_set (e ∷ es) zero s l = refl
state_set (e ∷ es) (suc id) s l = state_set es id s (omega arith)

pub loaded_new : (set : FontSet) (id : ℕ) (s : State) → id < length set.fonts → state_at set id ≡ State.Known → IsLoaded s
    → Loaded set (record { units = set.units; want = set.want; fonts = with_state set.fonts id s }) id
unfolding state_at keys_now
loaded_new set id s l k d =
    record {
      extends =
          record {
            units = refl;
            want = refl;
            more = omega (arith, set_length set.fonts id s);
            keys = λ q i e. keeps_place set.fonts id s q ∙ e;
            same = λ i h. others set.fonts id i s k h;
          };
      keeps = keys_set set.fonts id s;
      loaded = subst IsLoaded (sym (state_set set.fonts id s l)) d;
    }

pub loaded_same : (set : FontSet) (id : ℕ) → IsLoaded (state_at set id) → Loaded set set id
loaded_same set id d =
    record {
      extends = record { units = refl; want = refl; more = omega arith; keys = λ q i e. e; same = λ i h. refl };
      keeps = refl;
      loaded = d;
    }
