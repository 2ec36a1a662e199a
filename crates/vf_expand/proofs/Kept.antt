-- Slots in which nothing is kept, and one in which a character is.
use Rattle.std.proofs.Common.{◌≡◌, ◌≢◌, ◌≤◌, ◌<◌, ◌∙◌, ℕ, List, length, Option, None, Some, set, arith, refl, ap, subst, sym, ⊎_elim}
use Rattle.std.proofs.lemmas.Bool.{cases_eq, cases_lt}
use Rattle.std.proofs.lemmas.List.{get_or-replicate, get_or-set_other, get_or-set_same, length-replicate, length-set}
use Rattle.std.proofs.lemmas.Option.{slice_get-get_or, slice_get_past}
use Rattle.std.specs.Prelude.{replicate, slice_get}
use Rattle.font_set.specs.Fonts.{FontSet}
use Rattle.vf_expand.specs.Grid.{Grid}
use Rattle.vf_expand.specs.Wide.{IsMet, IsStart}
use Rattle.vf_expand.specs.declared.met.Met.{Met}
use Rattle.vf_expand.specs.declared.met.Start.{Start}
use Rattle.vf_expand.specs.Past.{AreOfPages, AreStartsOfPages, page_in, page_of}

-- what stands in one of so many slots in which nothing is kept
no_slot : {A : Type 0} → (page : Option A → ℕ) (x : A) → page None ≡ 0 → page (Some x) ≡ 0 → (n slot : ℕ) → page (slice_get (replicate n x) slot) ≡ 0
no_slot {A} page x none empty n slot =
    ⊎_elim
    (λ (inside : slot < n). ap page (slice_get-get_or (replicate {A = A} n x) slot x (omega (arith, length-replicate {A = A} n x)) ∙ ap Some (get_or-replicate n slot x x inside)) ∙ empty)
    (λ (past : n ≤ slot). ap page (slice_get_past (replicate {A = A} n x) slot (omega (arith, length-replicate {A = A} n x))) ∙ none)
    (cases_lt slot n)

pub none_met : (n : ℕ) (x : Met) (ms : List Met) → x.page ≡ 0 → ms ≡ replicate n x → AreOfPages 0 ms
none_met n x ms blank is = subst (λ (l : List Met). AreOfPages 0 l) (sym is) (record { each = λ slot. omega (arith, no_slot page_in x refl blank n slot) })

pub none_started : (n : ℕ) (ss : List (Option Start)) → ss ≡ replicate n None → AreStartsOfPages 0 ss
none_started n ss is = subst (λ (l : List (Option Start)). AreStartsOfPages 0 l) (sym is) (record { each = λ slot. omega (arith, no_slot page_of None refl refl n slot) })

-- where one slot more is kept, each of the others is as it was
slot_other : (ms : List Met) (at s : ℕ) (x : Met) → s ≢ at → slice_get (set ms at x) s ≡ slice_get ms s
slot_other ms at s x other =
    ⊎_elim
    (λ (inside : s < length ms). slice_get-get_or (set ms at x) s x (omega (arith, length-set ms at x)) ∙ ap Some (get_or-set_other ms at s x x other) ∙ sym (slice_get-get_or ms s x inside))
    (λ (past : length ms ≤ s). slice_get_past (set ms at x) s (omega (arith, length-set ms at x)) ∙ sym (slice_get_past ms s past))
    (cases_lt s (length ms))

slot_here : (ms : List Met) (at : ℕ) (x : Met) → at < length ms → slice_get (set ms at x) at ≡ Some x
slot_here ms at x inside = slice_get-get_or (set ms at x) at x (omega (arith, length-set ms at x)) ∙ ap Some (get_or-set_same ms at x x inside)

pub each_met : (g : Grid) (fs : FontSet) (page : ℕ) (ms : List Met) (at : ℕ) (m : Met) → at < length ms → ((s : ℕ) → IsMet g fs page s (slice_get ms s)) → IsMet g fs page at (Some m)
    → (s : ℕ) → IsMet g fs page s (slice_get (set ms at m) s)
each_met g fs page ms at m inside each new s =
    ⊎_elim
    (λ (here : s ≡ at). subst (λ (i : ℕ). IsMet g fs page i (slice_get (set ms at m) i)) (sym here) (subst (IsMet g fs page at) (sym (slot_here ms at m inside)) new))
    (λ (other : s ≢ at). subst (IsMet g fs page s) (sym (slot_other ms at s m other)) (each s))
    (cases_eq s at)

-- ---- what is kept of earlier pages

pub later_met : (p q : ℕ) (ms : List Met) → p ≤ q → AreOfPages p ms → AreOfPages q ms
later_met p q ms before past = record { each = λ slot. omega (arith, before, past.each slot) }

pub later_started : (p q : ℕ) (ss : List (Option Start)) → p ≤ q → AreStartsOfPages p ss → AreStartsOfPages q ss
later_started p q ss before past = record { each = λ slot. omega (arith, before, past.each slot) }

pub not_met : (g : Grid) (fs : FontSet) (page p : ℕ) (ms : List Met) → p < page → AreOfPages p ms → (slot : ℕ) → IsMet g fs page slot (slice_get ms slot)
not_met g fs page p ms before past slot = stands (slice_get ms slot) (past.each slot)
  where
    stands : (o : Option Met) → page_in o ≤ p → IsMet g fs page slot o
    stands None h = tt
    stands (Some m) h = λ same. absurd (omega (arith, before, h, same))

pub not_started : (fs : FontSet) (page p : ℕ) (ss : List (Option Start)) → p < page → AreStartsOfPages p ss → (slot : ℕ) → IsStart fs page (slice_get ss slot)
not_started fs page p ss before past slot = stands (slice_get ss slot) (past.each slot)
  where
    stands : (o : Option (Option Start)) → page_of o ≤ p → IsStart fs page o
    stands None h = tt
    stands (Some None) h = tt
    stands (Some (Some s)) h = λ same. absurd (omega (arith, before, h, same))
