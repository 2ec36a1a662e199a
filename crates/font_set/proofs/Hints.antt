-- The keys of a set differ: a key that stands at a place is found there.
use Rattle.std.proofs.Common.{◌≡◌, ◌<◌, ℕ, zero, suc, arith, List, [], ◌∷◌, length, Some, Bool, true, false, slice_get, get_or, refl, sym, ap, subst, ◌∙◌}
use Rattle.std.specs.List.{AllByRecursion}
use Rattle.std.specs.Cmp.{IsEquivalence}
use Rattle.std.proofs.lemmas.List.Quantifiers.{position-Some}
use Rattle.indexmap.specs.IndexMap.{IndexMap, IsUnique}
use Rattle.indexmap.proofs.MapLemmas.{index-first}
use Rattle.indexmap.proofs.RemoveLemmas.{own_first}
use Rattle.dvi_doc.specs.declared.font.FontKey.{FontKey}
use Rattle.font_set.specs.Key.{Key, IsKey, same_key}
use Rattle.font_set.specs.Fonts.{State, Entry, place_of}
use Rattle.font_set.specs.Stored.{entry_of, entries_of, IsStored}
use Rattle.font_set.specs.Views.{key_of}
use Rattle.font_set.specs.declared.font.Font.{Font}
use Rattle.font_set.proofs.Ids.{same_is, same_self}
use Rattle.font_set.proofs.Keys.{eq, place_is}
use Rattle.font_set.proofs.Stores.{stored_at}

alike : (a b : Bool) → (a ≡ true → b ≡ true) → (b ≡ true → a ≡ true) → a ≡ b
alike true b f g = sym (f refl)
alike false true f g = g refl
alike false false f g = refl

turned : (a b : Key) → same_key a b ≡ true → same_key b a ≡ true
turned a b e = subst (λ (k : Key). same_key b k ≡ true) (sym (same_is a b e)) (same_self b)

laws : IsEquivalence eq
laws =
    record {
      refl = λ x. same_self (key_of x);
      symm = λ x y. alike _ _ (turned (key_of x) (key_of y)) (turned (key_of y) (key_of x));
      congr = λ x y z e. ap (λ (k : Key). same_key k (key_of z)) (same_is (key_of x) (key_of y) e);
    }

-- what stands at a place in the table
stored_pair : (ps : List (FontKey × Font)) (i : ℕ) (e : Entry) → slice_get (entries_of ps) i ≡ Some e → (p : FontKey × Font) × (slice_get ps i ≡ Some p) × (entry_of p ≡ e)
stored_pair [] i e h = absurd cc
stored_pair (p ∷ ps) zero e h = let s : entry_of p ≡ e = cc in (p, refl, s)
stored_pair (p ∷ ps) (suc i) e h = stored_pair ps i e h

pub own_place : {S : Type 0} (m : IndexMap FontKey Font S) (i : ℕ) (e : Entry) → IsUnique eq m → slice_get (entries_of m.entries) i ≡ Some e → place_of (entries_of m.entries) e.key ≡ Some i
own_place m i e unique h =
    let p = stored_pair m.entries i e h in
    let key : key_of p.0.0 ≡ e.key = ap (λ (x : Entry). x.key) p.2 in
    ap (place_of (entries_of m.entries)) (sym key) ∙ place_is p.0.0 m.entries ∙ index-first _ m.entries i (own_first eq laws m.entries i p.0.0 p.0.1 unique p.1)

place_pair : (ps : List (FontKey × Font)) (i : ℕ) → i < length (entries_of ps) → (p : FontKey × Font) × (slice_get (entries_of ps) i ≡ Some (entry_of p)) × ((d : Entry) → get_or (entries_of ps) i d ≡ entry_of p)
place_pair [] i h = absurd (omega arith)
place_pair (p ∷ ps) zero h = (p, refl, λ d. refl)
place_pair (p ∷ ps) (suc i) h = place_pair ps i (omega arith)

-- a key that is known is kept, and is as it should be
pub kept_key : (ps : List (FontKey × Font)) (k : Key) (i : ℕ) → AllByRecursion IsStored (entries_of ps) → place_of (entries_of ps) k ≡ Some i → (key : FontKey) × (k ≡ key_of key) × IsKey (key_of key)
unfolding place_of
kept_key ps k i stored h =
    let d : Entry = record { key = k; state = State.Known } in
    let at = position-Some (λ (x : Entry). same_key k x.key) (entries_of ps) i d h in
    let p = place_pair ps i at.0 in
    let same : same_key k (key_of p.0.0) ≡ true = subst (λ (x : Entry). same_key k x.key ≡ true) (p.2 d) at.1 in
    let s = stored_at (entries_of ps) i (entry_of p.0) stored p.1 in
    (p.0.0, same_is k (key_of p.0.0) same, s.key)
