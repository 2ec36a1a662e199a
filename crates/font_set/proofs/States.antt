-- A key that is made known loads no font, and loading a font loads no other.
use Rattle.std.proofs.Common.{◌≡◌, ℕ, zero, suc, List, [], ◌∷◌, ◌++◌, Option, Some, None, slice_get, refl, ap, ◌∙◌}
use Rattle.dv_base.specs.Shelf.{Contents}
use Rattle.dv_base.specs.declared.units.Units.{Units}
use Rattle.font_set.specs.declared.want.Want.{Want}
use Rattle.font_set.specs.Key.{Key}
use Rattle.font_set.specs.Fonts.{State, Entry, FontSet, state_at, state_in, place_of, learn, learn_by}
use Rattle.font_set.specs.FontOf.{Loads}
use Rattle.font_set.specs.Search.{SameStates, LoadsOnly}

one_more : (es : List Entry) (k : Key) (i : ℕ) → state_in (slice_get (es ++ record { key = k; state = State.Known } ∷ []) i) ≡ state_in (slice_get es i)
one_more [] k zero = refl
one_more [] k (suc i) = refl
one_more (e ∷ es) k zero = refl
one_more (e ∷ es) k (suc i) = one_more es k i

by_place : (o : Option ℕ) (es : List Entry) (k : Key) (i : ℕ) → state_in (slice_get (learn_by o es k) i) ≡ state_in (slice_get es i)
by_place None es k i = one_more es k i
by_place (Some n) es k i = refl

pub learn_states : (old new : FontSet) (k : Key) → new ≡ record old { fonts = learn old.fonts k } → SameStates old new
unfolding state_at learn
learn_states old new k e i = ap (λ (set : FontSet). state_in (slice_get set.fonts i)) e ∙ by_place (place_of old.fonts k) old.fonts k i

in_entries : (held : Option Contents) (units : Units) (want : Want) (es fs : List Entry) (id : ℕ) → Loads held units want es fs id → (i : ℕ) → (i ≡ id → ⊥) → state_in (slice_get fs i) ≡ state_in (slice_get es i)
in_entries held units want [] fs id l i other = absurd l
in_entries held units want (e ∷ es) [] id l i other = absurd l
in_entries held units want (e ∷ es) (f ∷ fs) zero l zero other = absurd (other refl)
in_entries held units want (e ∷ es) (f ∷ fs) zero l (suc i) other = ap (λ (xs : List Entry). state_in (slice_get xs i)) l.2
in_entries held units want (e ∷ es) (f ∷ fs) (suc id) l zero other = ap (λ (x : Entry). x.state) l.0
in_entries held units want (e ∷ es) (f ∷ fs) (suc id) l (suc i) other = in_entries held units want es fs id l.1 i (λ q. other (ap suc q))

pub loads_only : (held : Option Contents) (units : Units) (want : Want) (old new : FontSet) (id : ℕ) → Loads held units want old.fonts new.fonts id → LoadsOnly old new id
unfolding state_at
loads_only held units want old new id l i other = in_entries held units want old.fonts new.fonts id l i other
