-- A key is made known.
use Rattle.std.proofs.Common.{◌≡◌, ◌≤◌, ◌<◌, ◌+◌, ◌||◌, ℕ, zero, suc, arith, List, [], ◌∷◌, ◌++◌, length, Option, Some, None, Bool, true, false, slice_get, refl, sym, ap, subst, ◌∙◌, cond, nat_lt, not}
use Rattle.std.specs.Prelude.{map}
use Rattle.std.specs.List.{position_or_len, list_any, AllByRecursion}
use Rattle.std.proofs.lemmas.List.{length_push}
use Rattle.std.proofs.lemmas.List.Folds.{position_or_len_push}
use Rattle.std.proofs.lemmas.List.Sums.{prefix_len-le-length, sum_by_push}
use Rattle.std.proofs.lemmas.Bool.Decides.{nat_tests}
use Rattle.font_set.specs.Key.{Key, IsKey, same_key}
use Rattle.font_set.specs.Fonts.{State, Entry, FontSet, place_of, learn, learn_by, state_at, state_in, IsLoaded, raster_bytes, raster_bytes_in}
use Rattle.font_set.specs.Growth.{keys_now, Extends, Learnt}
use Rattle.font_set.specs.Stored.{AreStored, IsStored, HasWanted, HaveWanted}
use Rattle.font_set.specs.declared.want.Want.{Want}

abbrev pub new_entry : Key → Entry
new_entry k = record { key = k; state = State.Known }

stays : (l : Entry) (es : List Entry) (k : Key) (i : ℕ) → place_of es k ≡ Some i → place_of (es ++ l ∷ []) k ≡ Some i
unfolding place_of
stays last es k i e =
    let test = λ (x : Entry). same_key k x.key in
    let push = position_or_len_push test es last in
    let long : length (es ++ last ∷ []) ≡ length es + 1 = length_push es last in
    let near : position_or_len test es ≤ length es = prefix_len-le-length (λ (x : Entry). not (test x)) es in
    grind (arith, nat_tests, push, long, near)

pub loaded_within : (es : List Entry) (i : ℕ) → IsLoaded (state_in (slice_get es i)) → i < length es
loaded_within [] i l = absurd l
loaded_within (e ∷ es) zero l = omega arith
loaded_within (e ∷ es) (suc i) l = let h = loaded_within es i l in omega (arith, h)

same_push : (l : Entry) (es : List Entry) (i : ℕ) → i < length es → slice_get (es ++ l ∷ []) i ≡ slice_get es i
same_push last [] i h = absurd (omega arith)
same_push last (e ∷ es) zero h = refl
same_push last (e ∷ es) (suc i) h = same_push last es i (omega arith)

map_push : (l : Entry) (es : List Entry) → map (λ (e : Entry). e.key) (es ++ l ∷ []) ≡ map (λ (e : Entry). e.key) es ++ l.key ∷ []
map_push last [] = refl
map_push last (e ∷ es) = ap (λ (ks : List Key). e.key ∷ ks) (map_push last es)

pushed : (set : FontSet) (k : Key) → place_of set.fonts k ≡ None → Extends set (record { units = set.units; want = set.want; fonts = set.fonts ++ new_entry k ∷ [] })
unfolding state_at
pushed set k n =
    record {
      units = refl;
      want = refl;
      more = omega (arith, length_push set.fonts (new_entry k));
      keys = stays (new_entry k) set.fonts;
      same = λ i l. same_push (new_entry k) set.fonts i (loaded_within set.fonts i l);
    }

any_more : (b r : Bool) (n l : ℕ) → r ≡ nat_lt n l → (b || r) ≡ nat_lt (cond (not b) (1 + n) 0) (suc l)
any_more true r n l h = grind (arith, nat_tests)
any_more false r n l h = h ∙ grind (arith, nat_tests)

any_place : (es : List Entry) (k : Key) → list_any (same_key k) (map (λ (e : Entry). e.key) es) ≡ nat_lt (position_or_len (λ (e : Entry). same_key k e.key) es) (length es)
any_place [] k = refl
any_place (e ∷ es) k =
    any_more (same_key k e.key) (list_any (same_key k) (map (λ (x : Entry). x.key) es)) (position_or_len (λ (x : Entry). same_key k x.key) es) (length es) (any_place es k)

known_any : (es : List Entry) (k : Key) (i : ℕ) → place_of es k ≡ Some i → list_any (same_key k) (map (λ (e : Entry). e.key) es) ≡ true
unfolding place_of
known_any es k i e = any_place es k ∙ by _ _ e
  where
    by : (n l : ℕ) → cond (nat_lt n l) (Some n) None ≡ Some i → nat_lt n l ≡ true
    by n l h = grind (arith, nat_tests)

new_any : (es : List Entry) (k : Key) → place_of es k ≡ None → list_any (same_key k) (map (λ (e : Entry). e.key) es) ≡ false
unfolding place_of
new_any es k e = any_place es k ∙ by _ _ e
  where
    by : (n l : ℕ) → cond (nat_lt n l) (Some n) None ≡ None → nat_lt n l ≡ false
    by n l h = grind (arith, nat_tests)

extends_self : (set : FontSet) → Extends set set
extends_self set = record { units = refl; want = refl; more = omega arith; keys = λ k i e. e; same = λ i l. refl }

-- a key that is known
pub learnt_old : (set : FontSet) (k : Key) (i : ℕ) → place_of set.fonts k ≡ Some i → Learnt set set k
unfolding keys_now
learnt_old set k i e = record { extends = extends_self set; learns = rw (known_any set.fonts k i e) refl }

-- a new key
pub learnt_new : (set : FontSet) (k : Key) → place_of set.fonts k ≡ None → Learnt set (record { units = set.units; want = set.want; fonts = learn set.fonts k }) k
unfolding keys_now learn
learnt_new set k e =
    let all : learn_by (place_of set.fonts k) set.fonts k ≡ set.fonts ++ new_entry k ∷ [] = ap (λ (o : Option ℕ). learn_by o set.fonts k) e in
    rw all (record { extends = pushed set k e; learns = rw (new_any set.fonts k e) (map_push (new_entry k) set.fonts) })

stored_push : (es : List Entry) (k : Key) → IsKey k → AllByRecursion IsStored es → AllByRecursion IsStored (es ++ new_entry k ∷ [])
stored_push [] k h a = (record { key = h; sound = tt }, tt)
stored_push (e ∷ es) k h a = (a.0, stored_push es k h a.1)

push_bytes : (es : List Entry) (k : Key) → raster_bytes (es ++ new_entry k ∷ []) ≡ raster_bytes es
unfolding raster_bytes
push_bytes es k = omega (arith, sum_by_push (λ (x : Entry). raster_bytes_in x.state) es (new_entry k))

learn_is : (es : List Entry) (k : Key) → place_of es k ≡ None → learn es k ≡ es ++ new_entry k ∷ []
unfolding learn
learn_is es k e = ap (λ (o : Option ℕ). learn_by o es k) e

pub bytes_push : (es : List Entry) (k : Key) → place_of es k ≡ None → raster_bytes (learn es k) ≡ raster_bytes es
bytes_push es k e = ap raster_bytes (learn_is es k e) ∙ push_bytes es k

pub stored_learn : (es : List Entry) (k : Key) → place_of es k ≡ None → IsKey k → length es < 1000 → AreStored es → AreStored (learn es k)
stored_learn es k e h l a =
    subst AreStored (sym (learn_is es k e))
    (record {
      few = omega (arith, length_push es (new_entry k));
      each = stored_push es k h a.each;
      room = omega (arith, push_bytes es k, a.room);
    })

wanted_known : (want : Want) → HasWanted want State.Known
wanted_known Want.Widths = tt
wanted_known Want.Packets = tt
wanted_known Want.Rasters = tt

wanted_push : (want : Want) (es : List Entry) (k : Key) → HaveWanted want es → HaveWanted want (es ++ new_entry k ∷ [])
wanted_push want [] k h = (wanted_known want, tt)
wanted_push want (e ∷ es) k h = (h.0, wanted_push want es k h.1)

pub wanted_learn : (want : Want) (es : List Entry) (k : Key) → place_of es k ≡ None → HaveWanted want es → HaveWanted want (learn es k)
wanted_learn want es k e h = subst (HaveWanted want) (sym (learn_is es k e)) (wanted_push want es k h)

pub not_full : (n : ℕ) → n ≤ 1000 → (n ≡ 1000 → ⊥) → n < 1000
not_full n l h = grind (arith, nat_tests)
