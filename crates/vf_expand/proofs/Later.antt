-- A page whose marks are defined, whose pushes are never too deep and whose commands are not too many is walked over to its end by every
-- canvas that refuses no mark. (The crate above cites these.)
use Rattle.std.specs.Prelude.{◌≡◌, ℕ, zero, suc, ◌+◌, ◌≤◌, ◌<◌, ◌⊎◌, ℤ, List, [], ◌∷◌, ◌++◌, length, Option, Some, None}
use Rattle.std.proofs.Common.{refl, arith, inl, inr}
use Rattle.dv_base.specs.declared.font_id.Spot.{Spot}
use Rattle.dv_base.specs.declared.font_id.Spot.TheVariants as spot
use Rattle.positions.specs.Mark.{Mark}
use Rattle.positions.specs.Place.{Place, origin}
use Rattle.dvi_ops.specs.Command.{Command, Definition}
use Rattle.dvi_ops.specs.Command.Command.{Set, Put}
use Rattle.dvi_ops.specs.Placed.{Placed}
use Rattle.dvi_doc.specs.Document.{PageOf}
use Rattle.font_set.specs.Fonts.{FontSet}
use Rattle.font_set.specs.Programs.{page_scope, page_program}
use Rattle.vf_expand.specs.Grid.{Grid, State}
use Rattle.vf_expand.specs.Meaning.{Meaning}
use Rattle.vf_expand.specs.Pages.{meaning, start_in, inner}
use Rattle.vf_expand.specs.Marks.{Outcome, marks_alone}
use Rattle.vf_expand.specs.Takes.{TookPage, Stops}
use Rattle.vf_expand.specs.Causes.{IsOwnCause, IsCharCause, IsCauseBy, IsMany, inside}
use Rattle.vf_expand.specs.Shallow.{CharFinds, FindsRoom, AllFindRoom, PacketFinds}
use Rattle.vf_expand.specs.Page.{page_marks, page_count, pages_count, IsPageCause, IsShallowPage}
use Rattle.vf_expand.specs.declared.fault.WalkFault.{WalkFault}
use Rattle.vf_expand.specs.declared.fault.WalkFault.TheVariants as fault

-- marks that are defined are not undefined
defined : (o : Outcome) (r : List Mark × State) → o ≡ Some r → marks_alone o ≡ None → ⊥
defined None r e n = cc
defined (Some s) r e n = cc

-- The marks of a page that a canvas took whole are defined.
pub took_defined : {C : Type 0} (takes : C → C → List Mark → Type 0) (old new : C) (o : Outcome) → TookPage takes old new o → (r : List Mark × State) × (o ≡ Some r)
took_defined takes old new None h = absurd h
took_defined takes old new (Some r) h = (r, refl)

neither : {A B : Type 0} → (A → ⊥) → (B → ⊥) → A ⊎ B → ⊥
neither f g (inl a) = f a
neither f g (inr b) = g b

char_not_deep : {F : Type 0} (finds : Option ℕ → ℤ → Place → Type 0) (stops : Option ℕ → ℤ → Place → WalkFault F → Type 0) (x : Spot) → ((font : Option ℕ) (z : ℤ) (p : Place) → finds font z p → stops font z p (fault.StackDeep x) → ⊥) → (c : Command) (s : State) → CharFinds finds c s → IsCharCause stops c s (fault.StackDeep x) → ⊥
char_not_deep finds stops x law (Set z) s f h = law s.font z s.place f h
char_not_deep finds stops x law (Put z) s f h = law s.font z s.place f h
char_not_deep finds stops x law _ s f h = h

own_not_deep : (F : Type 0) (finds : ℕ → Option ℕ → ℤ → Place → Type 0) (m : Meaning) (sp x : Spot) (around : ℕ) (c : Command) (os : List Place) (s : State) → FindsRoom finds around c os s → IsOwnCause m sp around c os s (let y : WalkFault F = fault.StackDeep x in y) → ⊥
own_not_deep F finds m sp x around c os s room h =
    let few : around + length os < 1000 = room.0 h.1.0 in
    omega (arith, h.1.1)

-- commands that find room stop at no push
all_not_deep : {F : Type 0} (finds : ℕ → Option ℕ → ℤ → Place → Type 0) (stops : ℕ → Option ℕ → ℤ → Place → WalkFault F → Type 0) (x : Spot) → ((around : ℕ) (font : Option ℕ) (z : ℤ) (p : Place) → finds around font z p → stops around font z p (fault.StackDeep x) → ⊥) → (m : Meaning) (s0 : State) (cs : List Placed) (at : ℕ → Spot) (end around : ℕ) → AllFindRoom finds m s0 cs around → IsCauseBy stops m s0 cs at end around (fault.StackDeep x) → ⊥
all_not_deep {F} finds stops x law m s0 cs at end around room =
    neither
    (λ h.
    neither (own_not_deep F finds m (at h.0) x around h.1.command h.1.pushes h.1.state (room h.0 h.1))
    (char_not_deep (finds (around + length h.1.pushes)) (stops (around + length h.1.pushes)) x (law (around + length h.1.pushes)) h.1.command h.1.state (room h.0 h.1).1) h.2)
    (λ h. h)

packet_not_deep : (F : Type 0) (g : Grid) (set : FontSet) (n : ℕ) (x : Spot) (around : ℕ) (font : Option ℕ) (z : ℤ) (p : Place) → PacketFinds g set n around font z p → inside g set n around font z p (let y : WalkFault F = fault.StackDeep x in y) → ⊥
unfolding PacketFinds inside
packet_not_deep F g set zero x around font z p f h = h
packet_not_deep F g set (suc n) x around font z p f h =
    neither (λ free. free)
    (λ k. all_not_deep (PacketFinds g set n) (inside {F = F} g set n) x (packet_not_deep F g set n x) (meaning g set n k.program.scope) (start_in set k.program (inner p)) k.program.commands (λ at. spot.Packet k.id k.code at) (length k.bytes) around
    (f k.id k.code k.program k.same_font k.same_code k.runs) k.stops) h

-- A page that is shallow stops at no push.
pub page_not_deep : (F : Type 0) (g : Grid) (set : FontSet) (ds : List Definition) (p : PageOf) (x : Spot) → IsShallowPage g set ds p.commands → IsPageCause g set ds p (let y : WalkFault F = fault.StackDeep x in y) → ⊥
page_not_deep F g set ds p x shallow cause = all_not_deep (PacketFinds g set 16) (inside {F = F} g set 16) x (packet_not_deep F g set 16 x) (meaning g set 16 (page_scope ds)) (start_in set (page_program ds p.commands) origin) p.commands (λ at. spot.Page at) p.eop 0 shallow cause

-- A walk over a page that is shallow, whose marks are defined and whose commands are not too many stops only where the canvas refuses a
-- mark. So once a page was walked over to its end, no later walk over it from as many commands or fewer stops in any other way.
pub no_stop : {C F : Type 0} (takes : C → C → List Mark → Type 0) (refuses : C → C → List Mark → Mark → F → Type 0) (g : Grid) (set : FontSet) (ds : List Definition) (p : PageOf) (before : ℕ) (old new : C) (r : List Mark × State) → page_marks g set ds p.commands ≡ Some r → IsShallowPage g set ds p.commands → before + page_count set ds p.commands ≤ 50000000
    → (e : WalkFault F) → Stops takes refuses old new (marks_alone (page_marks g set ds p.commands)) e → IsPageCause g set ds p e → IsMany (before + page_count set ds p.commands) e → (f : F) × (e ≡ fault.Canvas f)
no_stop takes refuses g set ds p before old new r some shallow few (fault.StackUnder x) stops cause many = absurd (defined (page_marks g set ds p.commands) r some stops.0)
no_stop takes refuses g set ds p before old new r some shallow few (fault.StackLeft x) stops cause many = absurd (defined (page_marks g set ds p.commands) r some stops.0)
no_stop takes refuses g set ds p before old new r some shallow few (fault.StackDeep x) stops cause many = absurd (page_not_deep _ g set ds p x shallow cause)
no_stop takes refuses g set ds p before old new r some shallow few (fault.NestDeep id code) stops cause many = absurd (defined (page_marks g set ds p.commands) r some stops.0)
no_stop takes refuses g set ds p before old new r some shallow few fault.TooManySteps stops cause many = absurd (omega (arith, few, many))
no_stop takes refuses g set ds p before old new r some shallow few (fault.Overflow x) stops cause many = absurd (defined (page_marks g set ds p.commands) r some stops.0)
no_stop takes refuses g set ds p before old new r some shallow few (fault.Canvas f) stops cause many = (f, refl)

-- ---- pages in a row

-- A page and those before it count no more than all of them.
pub count_front : (set : FontSet) (ds : List Definition) (done : List PageOf) (p : PageOf) (rest : List PageOf) → pages_count set ds done + page_count set ds p.commands ≤ pages_count set ds (done ++ p ∷ rest)
count_front set ds [] p rest = omega arith
count_front set ds (q ∷ done) p rest = let h = count_front set ds done p rest in omega (arith, h)

-- One page more.
pub count_next : (set : FontSet) (ds : List Definition) (done : List PageOf) (p : PageOf) → pages_count set ds (done ++ p ∷ []) ≡ pages_count set ds done + page_count set ds p.commands
count_next set ds [] p = omega arith
count_next set ds (q ∷ done) p = let h = count_next set ds done p in omega (arith, h)
