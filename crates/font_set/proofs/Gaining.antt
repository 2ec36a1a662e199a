-- What a set gains from one call, and from one call after another.
use Rattle.std.proofs.Common.{◌≡◌, ◌<◌, ◌+◌, ◌⊎◌, inl, inr, ℕ, zero, suc, arith, Bool, true, false, List, [], ◌∷◌, length, Option, Some, None, slice_get, refl, sym, ap, subst, ◌∙◌, nat_eq, nat_lt}
use Rattle.std.proofs.lemmas.Bool.Decides.{nat_tests}
use Rattle.std.proofs.lemmas.List.{length_push}
use Rattle.dv_base.specs.Shelf.{Contents, WhereHeld}
use Rattle.dv_base.specs.declared.units.Units.{Units}
use Rattle.font_set.specs.declared.want.Want.{Want}
use Rattle.font_set.specs.Key.{Key}
use Rattle.font_set.specs.Fonts.{State, Entry, FontSet, place_of, learn, learn_by, key_at, entry_key, state_at, state_in, IsLoaded}
use Rattle.font_set.specs.FontOf.{FontOf, LoadsAs, Loads}
use Rattle.font_set.specs.Growth.{Extends, Learnt, Loaded}
use Rattle.font_set.specs.Gains.{Gains}
use Rattle.font_set.proofs.Growing.{extends_self, extends_on, state_later}
use Rattle.font_set.proofs.Keys.{place_new}
use Rattle.font_set.proofs.States.{learn_states, loads_only}

-- nothing is gained
pub gains_self : (held : Option Contents) (set : FontSet) (L : ℕ → Type 0) (K : Key → Type 0) → Gains held set set L K
gains_self held set L K = record { extends = extends_self set; loads = λ id l. inl l; knows = λ id l. inl l }

pub gains_wider : (held : Option Contents) (old new : FontSet) (L M : ℕ → Type 0) (K J : Key → Type 0) → ((id : ℕ) → L id → M id) → ((key : Key) → K key → J key) → Gains held old new L K → Gains held old new M J
gains_wider held old new L M K J f g h =
    record {
      extends = h.extends;
      loads = λ id l. elim (h.loads id l) [ inl was ↦ inl was | inr w ↦ inr (f id w.0, w.1) ];
      knows = λ id l. elim (h.knows id l) [ inl was ↦ inl was | inr k ↦ inr (k.0, k.1, g k.0 k.2) ];
    }

key_later : (old new : FontSet) (id : ℕ) → Extends old new → IsLoaded (state_at old id) → key_at new id ≡ key_at old id
unfolding key_at
key_later old new id x l = ap entry_key (x.same id l)

-- a font that was read from its files is what they tell, however the set has grown
told_later : (held : Option Contents) (old new : FontSet) (id : ℕ) → Extends old new → IsLoaded (state_at old id)
    → WhereHeld held (λ h. FontOf h old.units old.want (key_at old id) (state_at old id)) → WhereHeld held (λ h. FontOf h new.units new.want (key_at new id) (state_at new id))
told_later None old new id x l w = tt
told_later (Some h) old new id x l w =
    subst (λ (u : Units). FontOf h u new.want (key_at new id) (state_at new id)) (sym x.units)
    (subst (λ (n : Want). FontOf h old.units n (key_at new id) (state_at new id)) (sym x.want)
    (subst (λ (k : Key). FontOf h old.units old.want k (state_at new id)) (sym (key_later old new id x l))
    (subst (λ (s : State). FontOf h old.units old.want (key_at old id) s) (sym (state_later old new id x l)) w)))

-- one call after another
pub gains_on : (held : Option Contents) (a b c : FontSet) (L M : ℕ → Type 0) (K J : Key → Type 0) → ((id : ℕ) → L id → M id) → ((key : Key) → K key → J key) → Gains held a b L K → Gains held b c M J → Gains held a c M J
gains_on held a b c L M K J f g x y =
    record {
      extends = extends_on a b c x.extends y.extends;
      loads = λ id l. elim (y.loads id l) [
        | inr w ↦ inr w
        | inl l ↦ elim (x.loads id l) [ inl was ↦ inl was | inr w ↦ inr (f id w.0, told_later held b c id y.extends l w.1) ]
      ];
      knows = λ id l. elim (y.knows id l) [
        | inr k ↦ inr k
        | inl l ↦ elim (x.knows id l) [ inl was ↦ inl was | inr k ↦ inr (k.0, y.extends.keys k.0 id k.1, g k.0 k.2) ]
      ];
    }

-- ---- a key is made known

below_last : (i n : ℕ) → i < n + 1 → (i < n) ⊎ (i ≡ n)
below_last i n l = by (nat_lt i n) refl
  where
    by : (b : Bool) → nat_lt i n ≡ b → (i < n) ⊎ (i ≡ n)
    by true e = inl (grind (arith, nat_tests))
    by false e = inr (grind (arith, nat_tests))

learn_knows : (es : List Entry) (k : Key) (i : ℕ) → i < length (learn es k) → (i < length es) ⊎ ((key : Key) × (place_of (learn es k) key ≡ Some i) × (key ≡ k))
unfolding learn
learn_knows es k i l = by (place_of es k) refl l
  where
    last : Entry
    last = record { key = k; state = State.Known }

    by : (o : Option ℕ) → place_of es k ≡ o → i < length (learn_by o es k) → (i < length es) ⊎ ((key : Key) × (place_of (learn_by o es k) key ≡ Some i) × (key ≡ k))
    by (Some n) e l = inl l
    by None e l =
        elim (below_last i (length es) (omega (arith, l, length_push es (record { key = k; state = State.Known })))) [
          | inl h ↦ inl h
          | inr h ↦ inr (k, place_new es k e ∙ ap (λ (n : ℕ). Some n) (sym h), refl)
        ]

pub learnt_gains : (held : Option Contents) (old new : FontSet) (k : Key) → new ≡ record old { fonts = learn old.fonts k } → Learnt old new k → Gains held old new (λ id. ⊥) (λ key. key ≡ k)
learnt_gains held old new k e l =
    record {
      extends = l.extends;
      loads = λ id h. inl (subst IsLoaded (learn_states old new k e id) h);
      knows = λ id h. elim (learn_knows old.fonts k id (subst (λ (s : FontSet). id < length s.fonts) e h)) [
        | inl was ↦ inl was
        | inr w ↦ inr (w.0, ap (λ (s : FontSet). place_of s.fonts w.0) e ∙ w.1, w.2)
      ];
    }

-- ---- a font is loaded

loaded_as : (held : Option Contents) (units : Units) (want : Want) (key : Key) (s t : State) → LoadsAs held units want key s t → IsLoaded s ⊎ WhereHeld held (λ h. FontOf h units want key t)
loaded_as held units want key State.Known t l = inr l.1
loaded_as held units want key (State.Real tfm pk) t l = inl tt
loaded_as held units want key (State.Virtual tfm vf) t l = inl tt

loaded_entry : (held : Option Contents) (units : Units) (want : Want) (es fs : List Entry) (id : ℕ) → Loads held units want es fs id
    → IsLoaded (state_in (slice_get es id)) ⊎ WhereHeld held (λ h. FontOf h units want (entry_key (slice_get fs id)) (state_in (slice_get fs id)))
loaded_entry held units want [] fs id l = absurd l
loaded_entry held units want (e ∷ es) [] id l = absurd l
loaded_entry held units want (e ∷ es) (f ∷ fs) zero l =
    elim (loaded_as held units want e.key e.state f.state l.1) [ inl was ↦ inl was | inr w ↦ inr (subst (λ (k : Key). WhereHeld held (λ h. FontOf h units want k f.state)) (sym l.0) w) ]
loaded_entry held units want (e ∷ es) (f ∷ fs) (suc id) l = loaded_entry held units want es fs id l.1

as_long : (held : Option Contents) (units : Units) (want : Want) (es fs : List Entry) (id : ℕ) → Loads held units want es fs id → length fs ≡ length es
as_long held units want [] fs id l = absurd l
as_long held units want (e ∷ es) [] id l = absurd l
as_long held units want (e ∷ es) (f ∷ fs) zero l = ap (λ (xs : List Entry). suc (length xs)) l.2
as_long held units want (e ∷ es) (f ∷ fs) (suc id) l = ap suc (as_long held units want es fs id l.1)

one_or_other : (i id : ℕ) → (i ≡ id) ⊎ (i ≡ id → ⊥)
one_or_other i id = by (nat_eq i id) refl
  where
    by : (b : Bool) → nat_eq i id ≡ b → (i ≡ id) ⊎ (i ≡ id → ⊥)
    by true e = inl (grind (arith, nat_tests))
    by false e = inr (λ q. grind (arith, nat_tests, e, q))

pub loaded_gains : (held : Option Contents) (old new : FontSet) (id : ℕ) → Loads held old.units old.want old.fonts new.fonts id → Loaded old new id → Gains held old new (λ i. i ≡ id) (λ key. ⊥)
unfolding state_at key_at
loaded_gains held old new id l d =
    record {
      extends = d.extends;
      loads = λ i h. elim (one_or_other i id) [ inl e ↦ here i e h | inr n ↦ inl (subst IsLoaded (loads_only held old.units old.want old new id l i n) h) ];
      knows = λ i h. inl (omega (arith, h, as_long held old.units old.want old.fonts new.fonts id l));
    }
  where
    now : WhereHeld held (λ h. FontOf h old.units old.want (key_at new id) (state_at new id)) → WhereHeld held (λ h. FontOf h new.units new.want (key_at new id) (state_at new id))
    now w =
        let x = d.extends in
        subst (λ (u : Units). WhereHeld held (λ h. FontOf h u new.want (key_at new id) (state_at new id))) (sym x.units)
        (subst (λ (n : Want). WhereHeld held (λ h. FontOf h old.units n (key_at new id) (state_at new id))) (sym x.want) w)

    here : (i : ℕ) → i ≡ id → IsLoaded (state_at new i) → IsLoaded (state_at old i) ⊎ ((i ≡ id) × WhereHeld held (λ h. FontOf h new.units new.want (key_at new i) (state_at new i)))
    here i e h =
        elim (loaded_entry held old.units old.want old.fonts new.fonts id l) [
          | inl was ↦ inl (subst (λ (n : ℕ). IsLoaded (state_at old n)) (sym e) was)
          | inr w ↦ inr (e, subst (λ (n : ℕ). WhereHeld held (λ h. FontOf h new.units new.want (key_at new n) (state_at new n))) (sym e) (now w))
        ]
