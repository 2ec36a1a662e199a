-- One turn of the code is one turn of the walk.
use Rattle.std.proofs.Common.{◌≡◌, ℕ, ℤ, pos, List, [], ◌∷◌, Option, Some, None, refl, sym, subst, ◌∙◌, ◌+ℤ◌}
use Rattle.std.proofs.lemmas.List.{append-nil}
use Rattle.dv_base.specs.declared.font_id.Spot.{Spot}
use Rattle.dvi_ops.specs.Command.{Command}
use Rattle.dvi_ops.specs.Command.Command.{Set, Put, Fnt}
use Rattle.dvi_ops.specs.View.{view}
use Rattle.dvi_ops.specs.declared.cmd.Cmd.{Cmd}
use Rattle.dvi_ops.specs.declared.cmd.Cmd.TheVariants as cmd
use Rattle.positions.specs.Place.{Place}
use Rattle.positions.specs.Mark.{Mark}
use Rattle.font_set.specs.Key.{Key}
use Rattle.font_set.specs.Fonts.{FontSet, place_of}
use Rattle.font_set.specs.Programs.{Scope, key_in, id_of, select}
use Rattle.font_set.specs.Frames.{select_act}
use Rattle.font_set.specs.Covers as Cov
use Rattle.vf_expand.specs.Painted.{IsPainted}
use Rattle.font_set.specs.Covers.{IsThere}
use Rattle.dvi_doc.specs.Grammar.{IsInner}
use Rattle.vf_expand.specs.Commands.{IsPlain}
use Rattle.font_set.specs.Tree.{Bracket, bracket}
use Rattle.font_set.specs.Tree.Bracket.{Neither}
use Rattle.vf_expand.specs.Grid.{State}
use Rattle.vf_expand.specs.Grid.{Grid}
use Rattle.vf_expand.specs.Meaning.{Meaning, Showing, no_char}
use Rattle.vf_expand.specs.Pages.{sense}
use Rattle.vf_expand.specs.Marks.{Outcome, step, set_char, put_char, at_place, past_char, marks_alone}
use Rattle.vf_expand.specs.Turn.{turned, turned_by, of_step, turn_marks}
use Rattle.vf_expand.specs.Takes.{Follows, FollowsTurn, TookChar, Stops, Halts, char_marks}
use Rattle.vf_expand.specs.Causes.{Passes, IsLarge}
use Rattle.vf_expand.specs.declared.fault.WalkFault.{WalkFault}
use Rattle.vf_expand.specs.declared.fault.WalkFault.TheVariants as fault
use Rattle.vf_expand.specs.declared.fault.Halt.TheVariants as halt
use Rattle.font_set.specs.Frames.{char_act}
use Rattle.vf_expand.specs.Homes.{meaning_in, IsTurnReady, IsCharReady}
use Rattle.vf_expand.specs.declared.home.Frame.{Frame}
use Rattle.vf_expand.proofs.Stopping.{Covers, plain_marks, can_on}

pub plain_view : (c : Cmd) → (c ≡ cmd.Push → ⊥) → (c ≡ cmd.Pop → ⊥) → ((k : ℤ) → c ≡ cmd.Fnt k → ⊥) → ((z : ℤ) → c ≡ cmd.Set z → ⊥) → ((z : ℤ) → c ≡ cmd.Put z → ⊥) → IsInner (view c) → IsPlain (view c)
plain_view cmd.Push a b d e f i = absurd (a refl)
plain_view cmd.Pop a b d e f i = absurd (b refl)
plain_view (cmd.Fnt k) a b d e f i = absurd (d k refl)
plain_view (cmd.Set z) a b d e f i = absurd (e z refl)
plain_view (cmd.Put z) a b d e f i = absurd (f z refl)
plain_view (cmd.Bop counts back) a b d e f i = i
plain_view cmd.Eop a b d e f i = i
plain_view (cmd.Pre head) a b d e f i = i
plain_view (cmd.Post tail) a b d e f i = i
plain_view (cmd.PostPost back id) a b d e f i = i
plain_view _ a b d e f i = tt

pub plain_bracket : (c : Command) → IsPlain c → bracket c ≡ Neither
plain_bracket Command.Push p = absurd p
plain_bracket Command.Pop p = absurd p
plain_bracket _ p = refl

pub follow_turn : {C : Type 0} (takes : C → C → List Mark → Type 0) (a b : C) (os : List Place) (s : State) (o : Outcome) → Follows takes a b s o → FollowsTurn takes a b os s (of_step os o)
follow_turn takes a b os s None h = h
follow_turn takes a b os s (Some r) h = (h.0, refl, h.1)

pub plain_turn : {C : Type 0} (takes : C → C → List Mark → Type 0) (a b : C) (m : Meaning) (os : List Place) (s t : State) (c : Command) → bracket c ≡ Neither → Follows takes a b t (step m c s) → FollowsTurn takes a b os t (turned m c os s)
plain_turn takes a b m os s t c e h = subst (λ (k : Bracket). FollowsTurn takes a b os t (turned_by m k c os s)) (sym e) (follow_turn takes a b os t (step m c s) h)

-- a plain command that is not done
pub plain_passed : {C F : Type 0} (takes : C → C → List Mark → Type 0) (refuses : C → C → List Mark → Mark → F → Type 0) (a b : C) → takes a a [] → (m : Meaning) (os : List Place) (s : State) (c : Command) (x : Spot) → bracket c ≡ Neither → Halts refuses a b (marks_alone (step m c s)) halt.Passed → Stops takes refuses a b (turn_marks (turned m c os s)) (let y : WalkFault F = fault.Overflow x in y)
plain_passed takes refuses a b none m os s c x e h = (sym (plain_marks m os s c e) ∙ h.0, ([], subst (λ y. takes a y []) (sym h.1) none))

pub plain_refused : {C F : Type 0} (takes : C → C → List Mark → Type 0) (refuses : C → C → List Mark → Mark → F → Type 0) (a b : C) (m : Meaning) (os : List Place) (s : State) (c : Command) (f : F) → bracket c ≡ Neither → Halts refuses a b (marks_alone (step m c s)) (halt.Canvas f) → Stops takes refuses a b (turn_marks (turned m c os s)) (fault.Canvas f)
plain_refused takes refuses a b m os s c f e h = subst (λ (o : Option (List Mark)). Stops takes refuses a b o (fault.Canvas f)) (plain_marks m os s c e) h

-- ---- characters

follow_set : {C : Type 0} (takes : C → C → List Mark → Type 0) (a b : C) (m : Meaning) (s : State) (q : Place) (w : ℤ) (o : Option (List Mark × ℤ)) → TookChar takes a b w o → past_char m.grid w s.place ≡ Some q → Follows takes a b (record { place = q; font = s.font }) (set_char m.grid s o)
follow_set takes a b m s q w None h e = absurd h
follow_set takes a b m s q w (Some r) h e = rw (h.1, e) (h.0, refl)

pub set_turn : {C : Type 0} (takes : C → C → List Mark → Type 0) (a b : C) (m : Meaning) (os : List Place) (s : State) (q : Place) (z w : ℤ) → TookChar takes a b w (m.char s.font z s.place) → past_char m.grid w s.place ≡ Some q → FollowsTurn takes a b os (record { place = q; font = s.font }) (turned m (Set z) os s)
unfolding step
set_turn takes a b m os s q z w h e = follow_turn takes a b os _ _ (follow_set takes a b m s q w (m.char s.font z s.place) h e)

follow_put : {C : Type 0} (takes : C → C → List Mark → Type 0) (a b : C) (s : State) (w : ℤ) (o : Option (List Mark × ℤ)) → TookChar takes a b w o → Follows takes a b s (put_char s o)
follow_put takes a b s w None h = absurd h
follow_put takes a b s w (Some r) h = (h.0, refl)

pub put_turn : {C : Type 0} (takes : C → C → List Mark → Type 0) (a b : C) (m : Meaning) (os : List Place) (s : State) (z w : ℤ) → TookChar takes a b w (m.char s.font z s.place) → FollowsTurn takes a b os s (turned m (Put z) os s)
unfolding step
put_turn takes a b m os s z w h = follow_turn takes a b os _ _ (follow_put takes a b s w (m.char s.font z s.place) h)

covers_set : (m : Meaning) (os : List Place) (s : State) (o : Option (List Mark × ℤ)) → Covers [] (char_marks o) (turn_marks (of_step os (set_char m.grid s o)))
covers_set m os s None = refl
covers_set m os s (Some r) = covered (past_char m.grid r.1 s.place)
  where
    covered : (q : Option Place) → Covers [] (Some r.0) (turn_marks (of_step os (at_place r.0 s.font q)))
    covered None = tt
    covered (Some q) = ([], append-nil r.0)

pub covers_set_turn : (m : Meaning) (os : List Place) (s : State) (z : ℤ) → Covers [] (char_marks (m.char s.font z s.place)) (turn_marks (turned m (Set z) os s))
unfolding step
covers_set_turn m os s z = covers_set m os s (m.char s.font z s.place)

covers_put : (os : List Place) (s : State) (o : Option (List Mark × ℤ)) → Covers [] (char_marks o) (turn_marks (of_step os (put_char s o)))
covers_put os s None = refl
covers_put os s (Some r) = ([], append-nil r.0)

pub covers_put_turn : (m : Meaning) (os : List Place) (s : State) (z : ℤ) → Covers [] (char_marks (m.char s.font z s.place)) (turn_marks (turned m (Put z) os s))
unfolding step
covers_put_turn m os s z = covers_put os s (m.char s.font z s.place)

-- behind a character that would move too far
set_none : (m : Meaning) (os : List Place) (s : State) (w : ℤ) (o : Option (List Mark × ℤ)) → (r : List Mark × ℤ) → o ≡ Some r → r.1 ≡ w → past_char m.grid w s.place ≡ None → turn_marks (of_step os (set_char m.grid s o)) ≡ None
set_none m os s w o r e k n = rw (e, k, n) refl

pub took_it : {C : Type 0} (takes : C → C → List Mark → Type 0) (a b : C) (w : ℤ) (o : Option (List Mark × ℤ)) → TookChar takes a b w o → (r : List Mark × ℤ) × (o ≡ Some r) × takes a b r.0 × (r.1 ≡ w)
took_it takes a b w None h = absurd h
took_it takes a b w (Some r) h = (r, refl, h.0, h.1)

pub overflowed : {C F : Type 0} (takes : C → C → List Mark → Type 0) (refuses : C → C → List Mark → Mark → F → Type 0) (a b : C) (m : Meaning) (os : List Place) (s : State) (z w : ℤ) (x : Spot) → TookChar takes a b w (m.char s.font z s.place) → past_char m.grid w s.place ≡ None → Stops takes refuses a b (turn_marks (turned m (Set z) os s)) (let y : WalkFault F = fault.Overflow x in y)
unfolding step
overflowed takes refuses a b m os s z w x h n =
    let t = took_it takes a b w (m.char s.font z s.place) h in
    (set_none m os s w (m.char s.font z s.place) t.0 t.1 t.3 n, (t.0.0, t.2))

pub passes_set : {C : Type 0} (takes : C → C → List Mark → Type 0) (a b : C) (m : Meaning) (s : State) (z w : ℤ) → TookChar takes a b w (m.char s.font z s.place) → IsLarge (s.place.h +ℤ w) → Passes m (Set z) s
passes_set takes a b m s z w h l =
    let t = took_it takes a b w (m.char s.font z s.place) h in
    (t.0, t.1, subst (λ (y : ℤ). IsLarge (s.place.h +ℤ y)) (sym t.3) l)

-- ---- fonts

pub fnt_turn : {C : Type 0} (takes : C → C → List Mark → Type 0) (a : C) → takes a a [] → (m : Meaning) (os : List Place) (s : State) (k : ℤ) (id : ℕ) → m.select k ≡ Some id → FollowsTurn takes a a os (record { place = s.place; font = Some id }) (turned m (Fnt k) os s)
unfolding step
fnt_turn takes a none m os s k id e = rw e (none, refl, refl)

pub select_there : (set : FontSet) (o : Option Key) → Cov.Covers set (select_act o ∷ []) → id_of set o ≡ None → ⊥
select_there set None c e = c.here.0
select_there set (Some key) c e = no_place (place_of set.fonts key) c.here.0 e
  where
    no_place : (o : Option ℕ) → IsThere o → o ≡ None → ⊥
    no_place None h k = h
    no_place (Some x) h k = cc

pub selects : (set : FontSet) (scope : Scope) (k : ℤ) → Cov.Covers set (select_act (key_in scope.fonts k) ∷ []) → select set scope k ≡ None → ⊥
unfolding select
selects set scope k c e = select_there set (key_in scope.fonts k) c e

-- ---- commands that set no character

pub same_step : (g : Grid) (set : FontSet) (scope : Scope) (char : Showing) (c : Command) (s : State) → IsPlain c → step (sense g set scope no_char) c s ≡ step (sense g set scope char) c s
unfolding step
same_step g set scope char (Set z) s h = absurd h
same_step g set scope char (Put z) s h = absurd h
same_step g set scope char _ s h = refl

pub same_passes : (g : Grid) (set : FontSet) (scope : Scope) (char : Showing) (c : Command) (s : State) → IsPlain c → Passes (sense g set scope no_char) c s → Passes (sense g set scope char) c s
same_passes g set scope char (Set z) s h p = absurd h
same_passes g set scope char _ s h p = p

-- ---- what a character asks for

pub set_ready : {C : Type 0} (can : C → Mark → Type 0) (f : Frame) (c : C) (z : ℤ) (os : List Place) (s : State) → IsTurnReady can f c (Set z) s.font (turn_marks (turned (meaning_in f) (Set z) os s)) → IsCharReady can f c s.font z (char_marks ((meaning_in f).char s.font z s.place))
set_ready can f c z os s r =
    let sets = IsPainted f.grid f.fonts.now (char_act r.sel z ∷ []) in
    record { sel = r.sel; same = r.same; covers = r.covers; can_take = can_on can c sets sets (λ glyph h. h) [] (char_marks ((meaning_in f).char s.font z s.place)) (turn_marks (turned (meaning_in f) (Set z) os s)) (covers_set_turn (meaning_in f) os s z) r.can_take }

pub put_ready : {C : Type 0} (can : C → Mark → Type 0) (f : Frame) (c : C) (z : ℤ) (os : List Place) (s : State) → IsTurnReady can f c (Put z) s.font (turn_marks (turned (meaning_in f) (Put z) os s)) → IsCharReady can f c s.font z (char_marks ((meaning_in f).char s.font z s.place))
put_ready can f c z os s r =
    let sets = IsPainted f.grid f.fonts.now (char_act r.sel z ∷ []) in
    record { sel = r.sel; same = r.same; covers = r.covers; can_take = can_on can c sets sets (λ glyph h. h) [] (char_marks ((meaning_in f).char s.font z s.place)) (turn_marks (turned (meaning_in f) (Put z) os s)) (covers_put_turn (meaning_in f) os s z) r.can_take }

-- at the font and the code that it has
pub ready_at : {C : Type 0} (can : C → Mark → Type 0) (f : Frame) (c : C) (font : Option ℕ) (z : ℤ) (p : Place) (id code : ℕ) → font ≡ Some id → z ≡ pos code → IsCharReady can f c font z (char_marks ((meaning_in f).char font z p)) → IsCharReady can f c (Some id) (pos code) (char_marks ((meaning_in f).char (Some id) (pos code) p))
ready_at can f c font z p id code e k r =
    subst (λ (y : ℤ). IsCharReady can f c (Some id) y (char_marks ((meaning_in f).char (Some id) y p))) k (subst (λ (o : Option ℕ). IsCharReady can f c o z (char_marks ((meaning_in f).char o z p))) e r)

pub took_back : {C : Type 0} (takes : C → C → List Mark → Type 0) (a b : C) (w : ℤ) (char : Showing) (font : Option ℕ) (z : ℤ) (p : Place) (id code : ℕ) → font ≡ Some id → z ≡ pos code → TookChar takes a b w (char (Some id) (pos code) p) → TookChar takes a b w (char font z p)
took_back takes a b w char font z p id code e k h =
    subst (λ (o : Option ℕ). TookChar takes a b w (char o z p)) (sym e) (subst (λ (y : ℤ). TookChar takes a b w (char (Some id) y p)) (sym k) h)

-- what is so of the font and the code that a character has
pub back : (P : Option ℕ → ℤ → Type 0) (font : Option ℕ) (z : ℤ) (id code : ℕ) → font ≡ Some id → z ≡ pos code → P (Some id) (pos code) → P font z
back P font z id code e k h = subst (λ (o : Option ℕ). P o z) (sym e) (subst (λ (y : ℤ). P (Some id) y) (sym k) h)
