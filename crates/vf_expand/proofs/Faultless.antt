-- A page whose marks are defined has no fault of its own.
use Rattle.std.proofs.Common.{◌≡◌, ◌+◌, ◌⊎◌, inl, inr, ℕ, zero, suc, ℤ, pos, ◌+ℤ◌, Bool, true, false, List, [], ◌∷◌, ◌++◌, length, Option, Some, None, refl, sym, ap, ◌∙◌, arith}
use Rattle.std.specs.Prelude.{if◌then◌else◌, ◌&&◌}
use Rattle.std.proofs.lemmas.Bool.Decides.{nat_tests}
use Rattle.std.proofs.lemmas.List.{append-nil}
use Rattle.dv_base.specs.declared.font_id.Spot.{Spot}
use Rattle.dvi_ops.specs.Command.{Command, Definition}
use Rattle.dvi_ops.specs.Command.Command.{Bop, Down, Eop, Fnt, FntDef, Nop, Pop, Post, PostPost, Pre, Push, Put, PutRule, Right, Set, SetRule, W, W0, X, X0, Xxx, Y, Y0, Z, Z0}
use Rattle.dvi_ops.specs.Placed.{Placed}
use Rattle.dvi_doc.specs.Document.{PageOf}
use Rattle.positions.specs.Mark.{Mark}
use Rattle.positions.specs.Place.{Place}
use Rattle.positions.specs.Drift.{fits, advanced, right, down}
use Rattle.dv_base.specs.declared.units.Units.{Units}
use Rattle.font_set.specs.Fonts as sets
use Rattle.font_set.specs.Fonts.{FontSet, state_at, width_at, size_at, IsVirtual}
use Rattle.font_set.specs.Programs as programs
use Rattle.font_set.specs.Programs.{Named, Program, program_at, id_of}
use Rattle.font_set.specs.Tree.{tree_of}
use Rattle.vf_expand.specs.Grid.{Grid, State}
use Rattle.vf_expand.specs.Meaning.{Meaning}
use Rattle.vf_expand.specs.Marks.{Outcome, after, at_place, prepend, down_by, is_size, past_rule, past_char, right_by, rule_marks, set_char, put_char, step, marks_of}
use Rattle.vf_expand.specs.Turn.{Turn, turned, Standing, left_behind, left_by, left_from}
use Rattle.vf_expand.specs.Pages.{chars, meaning, frame_marks, start_in, inner, boxed, shown_in, where_font, first_there}
use Rattle.vf_expand.specs.Causes.{IsLarge, IsUnder, IsOwnCause, IsCharCause, IsTurnCause, IsLeft, IsCauseBy, IsNested, IsFree, inside, Moment, Passes}
use Rattle.vf_expand.specs.Page.{page_marks, IsPageCause}
use Rattle.vf_expand.specs.Faultless.{LeavesMarks}
use Rattle.vf_expand.specs.declared.fault.WalkFault.{WalkFault}
use Rattle.vf_expand.specs.declared.fault.WalkFault.TheVariants as fault
use Rattle.vf_expand.proofs.Walk.{go_on, prepend_none, prepend_twice, walk, walk_page, walk_turn}

-- the walk over commands, of which the first leave these pushes and this state
abbrev Onward : Meaning → List Placed → List Placed → List Place → State → List Place → State → Type 0
Onward m before rest os s ps r = (ms : List Mark) × (walk m (before ++ rest) os s ≡ prepend ms (walk m rest ps r))

same_standing : (a b : Standing) → Some a ≡ Some b → a ≡ b
same_standing a b e = cc

left_walk : (m : Meaning) (before rest : List Placed) (os ps : List Place) (s r : State) → left_from m before os s ≡ Some (record { pushes = ps; state = r }) → Onward m before rest os s ps r
left_walk m [] rest os ps s r e =
    let a : Standing = record { pushes = os; state = s } in
    let b : Standing = record { pushes = ps; state = r } in
    let both : a ≡ b = same_standing a b e in
    let p : os ≡ ps = ap (λ (x : Standing). x.pushes) both in
    let q : s ≡ r = ap (λ (x : Standing). x.state) both in
    ([], ap (λ (xs : List Place). walk m rest xs s) p ∙ ap (walk m rest ps) q ∙ sym (prepend_none (walk m rest ps r)))
left_walk m (c ∷ cs) rest os ps s r e = behind (turned m c.command os s) (λ u h. left_walk m cs rest u.pushes ps u.state r h) e (walk_turn m c (cs ++ rest) os s)
  where
    behind : (o : Option Turn) → ((u : Turn) → left_from m cs u.pushes u.state ≡ Some (record { pushes = ps; state = r }) → Onward m cs rest u.pushes u.state ps r) → left_behind o (left_from m cs) ≡ Some (record { pushes = ps; state = r }) → walk m (c ∷ (cs ++ rest)) os s ≡ go_on o (walk m (cs ++ rest)) → Onward m (c ∷ cs) rest os s ps r
    behind None f h k = absurd cc
    behind (Some u) f h k =
        let i = f u h in
        (u.marks ++ i.0, k ∙ ap (prepend u.marks) i.1 ∙ prepend_twice u.marks i.0 (walk m rest ps r))

-- what is defined is not undefined
undefined : (ms : List Mark) (o all : Outcome) (r : List Mark × State) → all ≡ Some r → all ≡ prepend ms o → o ≡ None → ⊥
undefined ms None all r e k n = cc
undefined ms (Some x) all r e k n = cc

-- ---- a command that passes a limit has no step

not_fit : (z : ℤ) → IsLarge z → fits z ≡ false
not_fit z h = grind (arith, nat_tests)

no_size : (z : ℤ) → IsLarge z → is_size z ≡ false
no_size z h = grind (arith, nat_tests)

otherwise : (b : Bool) (x : Place) → b ≡ false → (if b then Some x else None) ≡ None
otherwise true x e = absurd cc
otherwise false x e = refl

right_none : (g : Grid) (space : ℤ) (p : Place) (q : ℤ) → IsLarge (p.h +ℤ q) → right_by g space q p ≡ None
unfolding right
right_none g space p q h = otherwise (fits (p.h +ℤ q)) _ (not_fit (p.h +ℤ q) h)

down_none : (g : Grid) (space : ℤ) (p : Place) (q : ℤ) → IsLarge (p.v +ℤ q) → down_by g space q p ≡ None
unfolding down
down_none g space p q h = otherwise (fits (p.v +ℤ q)) _ (not_fit (p.v +ℤ q) h)

past_none : (g : Grid) (p : Place) (b : ℤ) → IsLarge (p.h +ℤ b) → past_rule g b p ≡ None
unfolding advanced
past_none g p b h = otherwise (fits (p.h +ℤ b)) _ (not_fit (p.h +ℤ b) h)

char_none : (g : Grid) (p : Place) (w : ℤ) → IsLarge (p.h +ℤ w) → past_char g w p ≡ None
unfolding advanced
char_none g p w h = otherwise (fits (p.h +ℤ w)) _ (not_fit (p.h +ℤ w) h)

no_place : (ms : List Mark) (font : Option ℕ) (o : Option Place) → o ≡ None → at_place ms font o ≡ None
no_place ms font None e = refl
no_place ms font (Some p) e = absurd cc

unsized : (x y : Bool) (o : Outcome) → (x ≡ false) ⊎ (y ≡ false) → (if x && y then o else None) ≡ None
unsized true true o (inl e) = absurd cc
unsized true true o (inr e) = absurd cc
unsized true false o h = refl
unsized false y o h = refl

sized_none : (x : Bool) (o : Outcome) → o ≡ None → (if x then o else None) ≡ None
sized_none true o e = e
sized_none false o e = refl

set_none : (g : Grid) (s : State) (o : Option (List Mark × ℤ)) (r : List Mark × ℤ) → o ≡ Some r → IsLarge (s.place.h +ℤ r.1) → set_char g s o ≡ None
set_none g s o r e h = ap (set_char g s) e ∙ no_place r.0 s.font (past_char g r.1 s.place) (char_none g s.place r.1 h)

passes_none : (m : Meaning) (c : Command) (s : State) → Passes m c s → step m c s ≡ None
unfolding step
passes_none m (Set z) s h = set_none m.grid s (m.char s.font z s.place) h.0 h.1 h.2
passes_none m (SetRule a b) s (inl h) = unsized (is_size (m.amount a)) (is_size (m.amount b)) _ (inl (no_size (m.amount a) h))
passes_none m (SetRule a b) s (inr (inl h)) = unsized (is_size (m.amount a)) (is_size (m.amount b)) _ (inr (no_size (m.amount b) h))
passes_none m (SetRule a b) s (inr (inr h)) = sized_none (is_size (m.amount a) && is_size (m.amount b)) _ (no_place (rule_marks m.grid s.place (m.amount a) (m.amount b)) s.font (past_rule m.grid (m.amount b) s.place) (past_none m.grid s.place (m.amount b) h))
passes_none m (PutRule a b) s (inl h) = unsized (is_size (m.amount a)) (is_size (m.amount b)) _ (inl (no_size (m.amount a) h))
passes_none m (PutRule a b) s (inr h) = unsized (is_size (m.amount a)) (is_size (m.amount b)) _ (inr (no_size (m.amount b) h))
passes_none m (Right q) s h = no_place [] s.font _ (right_none m.grid (m.space s.font) s.place (m.amount q) h)
passes_none m W0 s h = no_place [] s.font _ (right_none m.grid (m.space s.font) s.place s.place.w h)
passes_none m (W q) s h = no_place [] s.font _ (right_none m.grid (m.space s.font) (record s.place { w = m.amount q }) (m.amount q) h)
passes_none m X0 s h = no_place [] s.font _ (right_none m.grid (m.space s.font) s.place s.place.x h)
passes_none m (X q) s h = no_place [] s.font _ (right_none m.grid (m.space s.font) (record s.place { x = m.amount q }) (m.amount q) h)
passes_none m (Down q) s h = no_place [] s.font _ (down_none m.grid (m.space s.font) s.place (m.amount q) h)
passes_none m Y0 s h = no_place [] s.font _ (down_none m.grid (m.space s.font) s.place s.place.y h)
passes_none m (Y q) s h = no_place [] s.font _ (down_none m.grid (m.space s.font) (record s.place { y = m.amount q }) (m.amount q) h)
passes_none m Z0 s h = no_place [] s.font _ (down_none m.grid (m.space s.font) s.place s.place.z h)
passes_none m (Z q) s h = no_place [] s.font _ (down_none m.grid (m.space s.font) (record s.place { z = m.amount q }) (m.amount q) h)
passes_none m (Put code) s h = absurd h
passes_none m Nop s h = absurd h
passes_none m (Bop counts back) s h = absurd h
passes_none m Eop s h = absurd h
passes_none m Push s h = absurd h
passes_none m Pop s h = absurd h
passes_none m (Fnt k) s h = absurd h
passes_none m (Xxx text) s h = absurd h
passes_none m (FntDef definition) s h = absurd h
passes_none m (Pre head) s h = absurd h
passes_none m (Post tail) s h = absurd h
passes_none m (PostPost back id) s h = absurd h

-- ... and no walk goes on behind it
after_none : (o : Outcome) (f : State → Outcome) → o ≡ None → after o f ≡ None
after_none None f e = refl
after_none (Some r) f e = absurd cc

pub passed_walk : (m : Meaning) (at : ℕ) (c : Command) (cs : List Placed) (os : List Place) (s : State) → Passes m c s → walk m (record { place = at; command = c } ∷ cs) os s ≡ None
unfolding walk
passed_walk m at Push cs os s h = absurd h
passed_walk m at Pop cs os s h = absurd h
passed_walk m at c cs os s h = after_none (step m c s) _ (passes_none m c s h)

pub under_walk : (m : Meaning) (at : ℕ) (c : Command) (cs : List Placed) (os : List Place) (s : State) → IsUnder c os → walk m (record { place = at; command = c } ∷ cs) os s ≡ None
unfolding walk
under_walk m at c cs os s h =
    ap (λ (d : Command). walk m (record { place = at; command = d } ∷ cs) os s) h.0
    ∙ ap (λ (ps : List Place). walk m (record { place = at; command = Pop } ∷ cs) ps s) h.1

pub set_walk : (m : Meaning) (at : ℕ) (z : ℤ) (cs : List Placed) (os : List Place) (s : State) → m.char s.font z s.place ≡ None → walk m (record { place = at; command = Set z } ∷ cs) os s ≡ None
unfolding walk step
set_walk m at z cs os s h = after_none (set_char m.grid s (m.char s.font z s.place)) _ (ap (set_char m.grid s) h)

pub put_walk : (m : Meaning) (at : ℕ) (z : ℤ) (cs : List Placed) (os : List Place) (s : State) → m.char s.font z s.place ≡ None → walk m (record { place = at; command = Put z } ∷ cs) os s ≡ None
unfolding walk step
put_walk m at z cs os s h = after_none (put_char s (m.char s.font z s.place)) _ (ap (put_char s) h)

nothing_open : (m : Meaning) (a : Standing) (ms : List Mark) (all : Outcome) (r : List Mark × State) → all ≡ Some r → all ≡ prepend ms (walk m [] a.pushes a.state) → a.pushes ≡ []
unfolding walk
nothing_open m a ms all r e k = by a.pushes k
  where
    by : (os : List Place) → all ≡ prepend ms (walk m [] os a.state) → os ≡ []
    by [] h = refl
    by (o ∷ os) h = absurd (undefined ms None all r e h refl)

moment_walk : (m : Meaning) (s0 : State) (cs : List Placed) (at : ℕ) (o : Moment m s0 cs at) → Onward m o.before (record { place = at; command = o.command } ∷ o.behind) [] s0 o.pushes o.state
unfolding left_by
moment_walk m s0 cs at o = left_walk m o.before (record { place = at; command = o.command } ∷ o.behind) [] o.pushes s0 o.state o.left

whole_walk : (m : Meaning) (s0 : State) (cs : List Placed) (a : Standing) → left_by m s0 cs ≡ Some a → Onward m cs [] [] s0 a.pushes a.state
unfolding left_by
whole_walk m s0 cs a e = left_walk m cs [] [] a.pushes s0 a.state e

-- ---- one frame

own_faultless : {F : Type 0} (m : Meaning) (sp : Spot) (around at : ℕ) (c : Command) (behind : List Placed) (os : List Place) (s : State) → (walk m (record { place = at; command = c } ∷ behind) os s ≡ None → ⊥) → (e : WalkFault F) → IsOwnCause m sp around c os s e → LeavesMarks e
own_faultless m sp around at c behind os s goes (fault.StackUnder x) h = goes (under_walk m at c behind os s h.1)
own_faultless m sp around at c behind os s goes (fault.StackLeft x) h = h
own_faultless m sp around at c behind os s goes (fault.StackDeep x) h = tt
own_faultless m sp around at c behind os s goes (fault.NestDeep id code) h = h
own_faultless m sp around at c behind os s goes fault.TooManySteps h = tt
own_faultless m sp around at c behind os s goes (fault.Overflow x) h = goes (passed_walk m at c behind os s h.1)
own_faultless m sp around at c behind os s goes (fault.Canvas f) h = tt

pub there_is : {A : Type 0} (o : Option A) → (o ≡ None → ⊥) → (x : A) × (o ≡ Some x)
there_is None h = absurd (h refl)
there_is (Some x) h = (x, refl)

-- what is so of a character that gives marks
abbrev Law : {F : Type 0} → (Option ℕ → ℤ → Place → WalkFault F → Type 0) → Meaning → Type 0
Law {F} stops m = (font : Option ℕ) (z : ℤ) (p : Place) (q : List Mark × ℤ) → m.char font z p ≡ Some q → (e : WalkFault F) → stops font z p e → LeavesMarks e

char_faultless : {F : Type 0} (stops : Option ℕ → ℤ → Place → WalkFault F → Type 0) (m : Meaning) → Law stops m → (at : ℕ) (c : Command) (behind : List Placed) (os : List Place) (s : State) → (walk m (record { place = at; command = c } ∷ behind) os s ≡ None → ⊥) → (e : WalkFault F) → IsCharCause stops c s e → LeavesMarks e
char_faultless stops m law at (Set z) behind os s goes e h =
    let q = there_is (m.char s.font z s.place) (λ n. goes (set_walk m at z behind os s n)) in
    law s.font z s.place q.0 q.1 e h
char_faultless stops m law at (Put z) behind os s goes e h =
    let q = there_is (m.char s.font z s.place) (λ n. goes (put_walk m at z behind os s n)) in
    law s.font z s.place q.0 q.1 e h
char_faultless stops m law at _ behind os s goes e h = absurd h

left_faultless : {F : Type 0} (m : Meaning) (s0 : State) (cs : List Placed) (r : List Mark × State) → walk m cs [] s0 ≡ Some r → (end : Spot) (e : WalkFault F) → IsLeft m s0 cs end e → LeavesMarks e
left_faultless m s0 cs r all end (fault.StackLeft x) h =
    let w = whole_walk m s0 cs h.1 h.2 in
    let nil : h.1.pushes ≡ [] = nothing_open m h.1 w.0 (walk m cs [] s0) r all (ap (λ (xs : List Placed). walk m xs [] s0) (sym (append-nil cs)) ∙ w.1) in
    absurd (omega (arith, ap length nil, h.3))
left_faultless m s0 cs r all end _ h = absurd h

frame_faultless : {F : Type 0} (stops : ℕ → Option ℕ → ℤ → Place → WalkFault F → Type 0) (m : Meaning) (s0 : State) (cs : List Placed) (r : List Mark × State) → marks_of m (tree_of cs) s0 ≡ Some r → ((around : ℕ) → Law (stops around) m) → (at : ℕ → Spot) (end around : ℕ) (e : WalkFault F) → IsCauseBy stops m s0 cs at end around e → LeavesMarks e
frame_faultless stops m s0 cs r marked law at end around e (inl h) =
    let w = moment_walk m s0 cs h.0 h.1 in
    let all : walk m cs [] s0 ≡ Some r = walk_page m cs s0 ∙ marked in
    turn h.0 h.1 h.2 (λ n. undefined w.0 _ (walk m cs [] s0) r all (ap (λ (xs : List Placed). walk m xs [] s0) (sym h.1.whole) ∙ w.1) n)
  where
    turn : (place : ℕ) (o : Moment m s0 cs place) → IsTurnCause m (at place) around (stops (around + length o.pushes)) o.command o.pushes o.state e → (walk m (record { place = place; command = o.command } ∷ o.behind) o.pushes o.state ≡ None → ⊥) → LeavesMarks e
    turn place o (inl k) goes = own_faultless m (at place) around place o.command o.behind o.pushes o.state goes e k
    turn place o (inr k) goes = char_faultless (stops (around + length o.pushes)) m (law (around + length o.pushes)) place o.command o.behind o.pushes o.state goes e k
frame_faultless stops m s0 cs r marked law at end around e (inr h) = left_faultless m s0 cs r (walk_page m cs s0 ∙ marked) (at end) e h

-- ---- through packets

virtual_none : (g : Grid) (id code : ℕ) (p : Place) (s : sets.State) (o : Option Program) (w : Option ℤ) → IsVirtual s → shown_in (λ program q. None) g id code p s o w ≡ None
virtual_none g id code p sets.State.Known o w h = absurd h
virtual_none g id code p (sets.State.Real tfm pk) o w h = absurd h
virtual_none g id code p (sets.State.Virtual tfm vf) o None h = refl
virtual_none g id code p (sets.State.Virtual tfm vf) None (Some w) h = refl
virtual_none g id code p (sets.State.Virtual tfm vf) (Some x) (Some w) h = refl

pub no_marks : (o : Option (List Mark × ℤ)) (q : List Mark × ℤ) → o ≡ Some q → o ≡ None → ⊥
no_marks None q e n = cc
no_marks (Some x) q e n = cc

pub nested_none : (g : Grid) (set : FontSet) (id code : ℕ) (p : Place) → IsVirtual (state_at set id) → chars g set 0 (Some id) (pos code) p ≡ None
unfolding chars
nested_none g set id code p h = virtual_none g id code p (state_at set id) (program_at set id code) (width_at set id code) h

nested_faultless : {F : Type 0} (g : Grid) (set : FontSet) (font : Option ℕ) (z : ℤ) (p : Place) (q : List Mark × ℤ) → chars g set 0 font z p ≡ Some q → (e : WalkFault F) → IsNested set font z e → LeavesMarks e
nested_faultless g set font z p q k (fault.NestDeep id code) h =
    no_marks (chars g set 0 font z p) q k
    (ap (λ (o : Option ℕ). chars g set 0 o z p) h.0 ∙ ap (λ (y : ℤ). chars g set 0 (Some id) y p) h.1 ∙ nested_none g set id code p h.2)
nested_faultless g set font z p q k fault.TooManySteps h = tt
nested_faultless g set font z p q k (fault.Canvas f) h = tt
nested_faultless g set font z p q k _ h = absurd h

free_faultless : {F : Type 0} (e : WalkFault F) → IsFree e → LeavesMarks e
free_faultless fault.TooManySteps h = tt
free_faultless (fault.Canvas f) h = tt
free_faultless _ h = absurd h

virtual_by : (units : Units) (size : ℕ) (s : sets.State) (code : ℕ) (program : Program) → programs.program_in units size s code ≡ Some program → IsVirtual s
virtual_by units size sets.State.Known code program e = absurd cc
virtual_by units size (sets.State.Real tfm pk) code program e = absurd cc
virtual_by units size (sets.State.Virtual tfm vf) code program e = tt

pub program_virtual : (set : FontSet) (id code : ℕ) (program : Program) → program_at set id code ≡ Some program → IsVirtual (state_at set id)
unfolding program_at
program_virtual set id code program e = virtual_by set.units (size_at set id) (state_at set id) code program e

box_marks : (w : ℤ) (o : Outcome) (q : List Mark × ℤ) → boxed w o ≡ Some q → (r : List Mark × State) × (o ≡ Some r)
box_marks w None q e = absurd cc
box_marks w (Some r) q e = (r, refl)

ran : (run : Program → Place → Outcome) (g : Grid) (id code : ℕ) (p : Place) (s : sets.State) (o : Option Program) (w : Option ℤ) (program : Program) (q : List Mark × ℤ) → IsVirtual s → o ≡ Some program → shown_in run g id code p s o w ≡ Some q → (r : List Mark × State) × (run program (inner p) ≡ Some r)
ran run g id code p sets.State.Known o w program q h e k = absurd h
ran run g id code p (sets.State.Real tfm pk) o w program q h e k = absurd h
ran run g id code p (sets.State.Virtual tfm vf) o None program q h e k = absurd cc
ran run g id code p (sets.State.Virtual tfm vf) None (Some w) program q h e k = absurd cc
ran run g id code p (sets.State.Virtual tfm vf) (Some x) (Some w) program q h e k =
    let same : x ≡ program = cc in
    let b = box_marks w (run x (inner p)) q k in
    (b.0, ap (λ (y : Program). run y (inner p)) (sym same) ∙ b.1)

font_marks : (o : Option ℕ) (m : Outcome) (r : List Mark × State) → where_font o m ≡ Some r → m ≡ Some r
font_marks None m r e = absurd cc
font_marks (Some id) m r e = e

first_marks : (set : FontSet) (first : Option Named) (m : Outcome) (r : List Mark × State) → first_there set first m ≡ Some r → m ≡ Some r
first_marks set None m r e = e
first_marks set (Some f) m r e = font_marks (id_of set f.key) m r e

pub packet_marks : (g : Grid) (set : FontSet) (n id code : ℕ) (p : Place) (program : Program) (q : List Mark × ℤ) → program_at set id code ≡ Some program → chars g set (suc n) (Some id) (pos code) p ≡ Some q → (r : List Mark × State) × (frame_marks g set n program (inner p) ≡ Some r)
unfolding chars
packet_marks g set n id code p program q e k =
    let b = ran (λ x y. first_there set x.first (frame_marks g set n x y)) g id code p (state_at set id) (program_at set id code) (width_at set id code) program q (program_virtual set id code program e) e k in
    (b.0, first_marks set program.first (frame_marks g set n program (inner p)) b.0 b.1)

pub either : {A B C : Type 0} → (A → C) → (B → C) → A ⊎ B → C
either f g (inl a) = f a
either f g (inr b) = g b

chars_faultless : {F : Type 0} (g : Grid) (set : FontSet) (n around : ℕ) (font : Option ℕ) (z : ℤ) (p : Place) (q : List Mark × ℤ) → chars g set n font z p ≡ Some q → (e : WalkFault F) → inside g set n around font z p e → LeavesMarks e
unfolding inside
chars_faultless g set zero around font z p q k e h = nested_faultless g set font z p q k e h
chars_faultless g set (suc n) around font z p q k e h =
    either (free_faultless e)
    (λ x.
    let there : chars g set (suc n) (Some x.id) (pos x.code) p ≡ Some q =
    ap (λ (o : Option ℕ). chars g set (suc n) o (pos x.code) p) (sym x.same_font) ∙ ap (λ (y : ℤ). chars g set (suc n) font y p) (sym x.same_code) ∙ k in
    let b = packet_marks g set n x.id x.code p x.program q x.runs there in
    frame_faultless (inside g set n) (meaning g set n x.program.scope) (start_in set x.program (inner p)) x.program.commands b.0 b.1 (λ a. chars_faultless g set n a) _ _ around e x.stops) h

pub faultless : (g : Grid) (set : FontSet) (ds : List Definition) (p : PageOf) (r : List Mark × State) → page_marks g set ds p.commands ≡ Some r → (e : WalkFault (Unit {0})) → IsPageCause g set ds p e → LeavesMarks e
faultless g set ds p r marked e cause =
    frame_faultless (inside g set 16) (meaning g set 16 _) _ p.commands r marked (λ a. chars_faultless g set 16 a) _ p.eop 0 e cause
