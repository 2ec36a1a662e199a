-- The fonts that a fault names are those of the set.
use Rattle.std.proofs.Common.{◌≡◌, ◌<◌, ◌+◌, ℕ, zero, suc, ℤ, List, [], ◌∷◌, length, Option, sym, subst, arith}
use Rattle.std.specs.Prelude.{slice_get}
use Rattle.dv_base.specs.declared.font_id.Spot.{Spot}
use Rattle.dv_base.specs.declared.font_id.Spot.TheVariants as spot
use Rattle.positions.specs.Place.{Place, origin}
use Rattle.dvi_ops.specs.Command.{Command, Definition}
use Rattle.dvi_ops.specs.Command.Command.{Set, Put}
use Rattle.dvi_ops.specs.Placed.{Placed}
use Rattle.dvi_doc.specs.Document.{PageOf}
use Rattle.font_set.specs.Fonts.{Entry, FontSet, state_in, state_at, IsVirtual}
use Rattle.font_set.specs.Programs.{page_scope, page_program}
use Rattle.vf_expand.specs.Grid.{Grid, State}
use Rattle.vf_expand.specs.Meaning.{Meaning}
use Rattle.vf_expand.specs.Pages.{meaning, start_in, inner}
use Rattle.vf_expand.specs.Causes.{IsOwnCause, IsCharCause, IsLeft, IsCauseBy, IsNested, IsFree, inside}
use Rattle.vf_expand.specs.Given.{IsSpotGiven, NamesGiven}
use Rattle.vf_expand.specs.Page.{IsPageCause}
use Rattle.vf_expand.specs.declared.fault.WalkFault.{WalkFault}
use Rattle.vf_expand.specs.declared.fault.WalkFault.TheVariants as fault
use Rattle.vf_expand.proofs.Faultless.{either, program_virtual}

entry_given : (es : List Entry) (id : ℕ) → IsVirtual (state_in (slice_get es id)) → id < length es
entry_given [] id h = absurd h
entry_given (e ∷ es) zero h = omega arith
entry_given (e ∷ es) (suc id) h = let k = entry_given es id h in omega (arith, k)

-- a virtual font is one of the set
pub virtual_given : (set : FontSet) (id : ℕ) → IsVirtual (state_at set id) → id < length set.fonts
unfolding state_at
virtual_given set id h = entry_given set.fonts id h

spot_given : (set : FontSet) (x sp : Spot) → x ≡ sp → IsSpotGiven set sp → IsSpotGiven set x
spot_given set x sp e h = subst (IsSpotGiven set) (sym e) h

own_given : {F : Type 0} (set : FontSet) (m : Meaning) (sp : Spot) (around : ℕ) (c : Command) (os : List Place) (s : State) → IsSpotGiven set sp → (e : WalkFault F) → IsOwnCause m sp around c os s e → NamesGiven set e
own_given set m sp around c os s g (fault.StackUnder x) h = spot_given set x sp h.0 g
own_given set m sp around c os s g (fault.StackLeft x) h = absurd h
own_given set m sp around c os s g (fault.StackDeep x) h = spot_given set x sp h.0 g
own_given set m sp around c os s g (fault.NestDeep id code) h = absurd h
own_given set m sp around c os s g fault.TooManySteps h = tt
own_given set m sp around c os s g (fault.Overflow x) h = spot_given set x sp h.0 g
own_given set m sp around c os s g (fault.Canvas f) h = tt

char_given : {F : Type 0} (set : FontSet) (stops : Option ℕ → ℤ → Place → WalkFault F → Type 0) (e : WalkFault F) → ((font : Option ℕ) (z : ℤ) (p : Place) → stops font z p e → NamesGiven set e) → (c : Command) (s : State) → IsCharCause stops c s e → NamesGiven set e
char_given set stops e law (Set z) s h = law s.font z s.place h
char_given set stops e law (Put z) s h = law s.font z s.place h
char_given set stops e law _ s h = absurd h

left_given : {F : Type 0} (set : FontSet) (m : Meaning) (first : State) (cs : List Placed) (end : Spot) → IsSpotGiven set end → (e : WalkFault F) → IsLeft m first cs end e → NamesGiven set e
left_given set m first cs end g (fault.StackLeft x) h = spot_given set x end h.0 g
left_given set m first cs end g _ h = absurd h

cause_given : {F : Type 0} (set : FontSet) (stops : ℕ → Option ℕ → ℤ → Place → WalkFault F → Type 0) (e : WalkFault F) → ((around : ℕ) (font : Option ℕ) (z : ℤ) (p : Place) → stops around font z p e → NamesGiven set e) → (m : Meaning) (first : State) (cs : List Placed) (at : ℕ → Spot) (end around : ℕ) → ((n : ℕ) → IsSpotGiven set (at n)) → IsCauseBy stops m first cs at end around e → NamesGiven set e
cause_given set stops e law m first cs at end around g h =
    either
    (λ k.
    either (own_given set m (at k.0) around k.1.command k.1.pushes k.1.state (g k.0) e)
    (char_given set (stops (around + length k.1.pushes)) e (law (around + length k.1.pushes)) k.1.command k.1.state) k.2)
    (left_given set m first cs (at end) (g end) e) h

nested_given : {F : Type 0} (set : FontSet) (font : Option ℕ) (z : ℤ) (e : WalkFault F) → IsNested set font z e → NamesGiven set e
nested_given set font z (fault.NestDeep id code) h = virtual_given set id h.2
nested_given set font z fault.TooManySteps h = tt
nested_given set font z (fault.Canvas f) h = tt
nested_given set font z _ h = absurd h

free_given : {F : Type 0} (set : FontSet) (e : WalkFault F) → IsFree e → NamesGiven set e
free_given set fault.TooManySteps h = tt
free_given set (fault.Canvas f) h = tt
free_given set _ h = absurd h

inside_given : {F : Type 0} (g : Grid) (set : FontSet) (n around : ℕ) (font : Option ℕ) (z : ℤ) (p : Place) (e : WalkFault F) → inside g set n around font z p e → NamesGiven set e
unfolding inside
inside_given g set zero around font z p e h = nested_given set font z e h
inside_given g set (suc n) around font z p e h =
    either (free_given set e)
    (λ k. cause_given set (inside g set n) e (λ a f y q. inside_given g set n a f y q e) (meaning g set n k.program.scope) (start_in set k.program (inner p)) k.program.commands (λ at. spot.Packet k.id k.code at) (length k.bytes) around (λ i. virtual_given set k.id (program_virtual set k.id k.code k.program k.runs)) k.stops) h

-- Each font that a fault of a page names is one of the set.
pub fault_given : {F : Type 0} (g : Grid) (set : FontSet) (ds : List Definition) (p : PageOf) (e : WalkFault F) → IsPageCause g set ds p e → NamesGiven set e
fault_given g set ds p e h = cause_given set (inside g set 16) e (λ a f y q. inside_given g set 16 a f y q e) (meaning g set 16 (page_scope ds)) (start_in set (page_program ds p.commands) origin) p.commands (λ at. spot.Page at) p.eop 0 (λ i. tt) h
