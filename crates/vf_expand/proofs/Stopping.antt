-- What a command gives of the marks of a page, and a walk that stops at it.
use Rattle.std.proofs.Common.{◌≡◌, ◌<◌, ◌+◌, inl, ℕ, ℤ, List, [], ◌∷◌, ◌++◌, length, Option, Some, None, refl, sym, ap, subst, ◌∙◌, append_assoc, arith}
use Rattle.std.specs.List.{Contains}
use Rattle.std.proofs.lemmas.List.{append-nil}
use Rattle.std.proofs.lemmas.List.Elements.{Contains-append_left, Contains-append_right}
use Rattle.dv_base.specs.declared.font_id.Spot.{Spot}
use Rattle.dvi_ops.specs.Command.{Command}
use Rattle.positions.specs.Place.{Place}
use Rattle.positions.specs.Mark.{Glyph, Mark}
use Rattle.positions.specs.Conditions.{SameCondition}
use Rattle.dvi_ops.specs.Placed.{Placed}
use Rattle.font_set.specs.Tree.{bracket, Bracket}
use Rattle.font_set.specs.Tree.Bracket.{Neither}
use Rattle.vf_expand.specs.Grid.{State}
use Rattle.vf_expand.specs.Meaning.{Meaning}
use Rattle.font_set.specs.Tree.{tree_of}
use Rattle.vf_expand.specs.Marks.{Outcome, prepend, step, marks_of, marks_alone}
use Rattle.vf_expand.specs.Turn.{Turn, turned, turned_by, of_step, turn_marks}
use Rattle.vf_expand.specs.Takes.{RefusesNext, Stops, TookSome, CanTake, IsAmong, MayCome, Nothing}
use Rattle.vf_expand.specs.Causes.{IsCauseBy, IsTurnCause, Moment}
use Rattle.vf_expand.specs.declared.fault.WalkFault.{WalkFault}
use Rattle.vf_expand.specs.declared.fault.WalkFault.TheVariants as fault
use Rattle.positions.specs.Mark.Mark.{OfGlyph, OfRule, OfSpecial}
use Rattle.vf_expand.proofs.Walk.{walk, go_on, walk_turn, walk_page}
use Rattle.vf_expand.proofs.Bytes.{Going}

-- all marks are pre, these and more
abbrev pub Covers : List Mark → Option (List Mark) → Option (List Mark) → Type 0
Covers pre None all = all ≡ None
Covers pre (Some ms) None = Unit {0}
Covers pre (Some ms) (Some all) = (rest : List Mark) × (pre ++ (ms ++ rest) ≡ all)

none_on : (pre : List Mark) (o all : Option (List Mark)) → Covers pre o all → o ≡ None → all ≡ None
none_on pre None all h e = h
none_on pre (Some ms) all h e = absurd cc

-- ---- what the canvas can take

among_on : (pre : List Mark) (o all : Option (List Mark)) (m : Mark) → Covers pre o all → IsAmong o m → IsAmong all m
among_on pre None all m h k = subst (λ (x : Option (List Mark)). IsAmong x m) (sym h) tt
among_on pre (Some ms) None m h k = tt
among_on pre (Some ms) (Some all) m h k = subst (λ (x : List Mark). Contains x m) h.1 (Contains-append_right pre (ms ++ h.0) m (Contains-append_left ms h.0 m k))

pub may_more : (few many : Glyph → Type 0) → ((glyph : Glyph) → few glyph → many glyph) → (m : Mark) → MayCome few m → MayCome many m
may_more few many h (OfGlyph g) k = (k.0, h g k.1)
may_more few many h (OfRule r) k = k
may_more few many h (OfSpecial x) k = k

-- a canvas that can take all marks can take those of a part, in which no other characters are set
pub can_on : {C : Type 0} (can : C → Mark → Type 0) (c : C) (few many : Glyph → Type 0) → ((glyph : Glyph) → few glyph → many glyph) → (pre : List Mark) (o all : Option (List Mark)) → Covers pre o all → CanTake can many c all → CanTake can few c o
can_on can c few many w pre o all h k m fit among = k m (may_more few many w m fit) (among_on pre o all m h among)

pub can_nothing : {C : Type 0} (can : C → Mark → Type 0) (c : C) (sets : Glyph → Type 0) (o : Option (List Mark)) → CanTake can sets c o → CanTake can Nothing c o
can_nothing can c sets o k m fit among = k m (may_more Nothing sets (λ glyph n. absurd n) m fit) among

-- ---- a command of a page

covers_turn : (taken : List Mark) (t : Option Turn) (f : List Place → State → Outcome) → Covers taken (turn_marks t) (marks_alone (prepend taken (go_on t f)))
covers_turn taken None f = refl
covers_turn taken (Some t) f = covered (f t.pushes t.state)
  where
    covered : (o : Outcome) → Covers taken (Some t.marks) (marks_alone (prepend taken (prepend t.marks o)))
    covered None = tt
    covered (Some r) = (r.0, refl)

pub covers_next : {C : Type 0} (takes : C → C → List Mark → Type 0) (m : Meaning) (s0 : State) (cs : List Placed) (ahead : List ℕ) (at : ℕ) (first now : C) (os : List Place) (s : State) (go : Going takes m s0 cs ahead at first now os s) (c : Placed) (behind : List Placed) (cmd : Command) → go.rest ≡ c ∷ behind → c.command ≡ cmd → Covers go.taken (turn_marks (turned m cmd os s)) (marks_alone (marks_of m (tree_of cs) s0))
covers_next takes m s0 cs ahead at first now os s go c behind cmd e k =
    let next : marks_of m (tree_of cs) s0 ≡ prepend go.taken (go_on (turned m cmd os s) (walk m behind)) =
    sym (walk_page m cs s0) ∙ go.same ∙ ap (λ (xs : List Placed). prepend go.taken (walk m xs os s)) e
    ∙ ap (prepend go.taken) (walk_turn m c behind os s ∙ ap (λ (d : Command). go_on (turned m d os s) (walk m behind)) k) in
    subst (λ (o : Outcome). Covers go.taken (turn_marks (turned m cmd os s)) (marks_alone o)) (sym next) (covers_turn go.taken (turned m cmd os s) (walk m behind))

-- ---- a command that is neither push nor pop

covers_same : (a b : Option (List Mark)) → a ≡ b → Covers [] a b
covers_same None b e = sym e
covers_same (Some ms) b e = subst (λ (x : Option (List Mark)). Covers [] (Some ms) x) e ([], append-nil ms)

same_marks : (os : List Place) (o : Outcome) → marks_alone o ≡ turn_marks (of_step os o)
same_marks os None = refl
same_marks os (Some r) = refl

-- its marks are those of its turn
pub plain_marks : (g : Meaning) (os : List Place) (s : State) (c : Command) → bracket c ≡ Neither → marks_alone (step g c s) ≡ turn_marks (turned g c os s)
plain_marks g os s c e =
    same_marks os (step g c s) ∙ ap (λ (k : Bracket). turn_marks (turned_by g k c os s)) (sym e)

-- ---- stopping

refuse_on : {C F : Type 0} (takes : C → C → List Mark → Type 0) (refuses : C → C → List Mark → Mark → F → Type 0) → ((a b c : C) (xs ys : List Mark) (m : Mark) (f : F) → takes a b xs → refuses b c ys m f → refuses a c (xs ++ ys) m f) → (first now new : C) (f : F) (pre : List Mark) → takes first now pre → (o all : Option (List Mark)) → Covers pre o all → RefusesNext refuses now new f o → RefusesNext refuses first new f all
refuse_on takes refuses law first now new f pre t None None k h = (pre ++ h.0, h.1, law first now new pre h.0 h.1 f t h.2)
refuse_on takes refuses law first now new f pre t None (Some all) k h = absurd cc
refuse_on takes refuses law first now new f pre t (Some ms) None k h = (pre ++ h.0, h.1, law first now new pre h.0 h.1 f t h.3)
refuse_on takes refuses law first now new f pre t (Some ms) (Some all) k h = (
  pre ++ h.0,
  h.1,
  h.2 ++ k.0,
  law first now new pre h.0 h.1 f t h.3,
  append_assoc pre h.0 (h.1 ∷ (h.2 ++ k.0)) ∙ ap (λ (xs : List Mark). pre ++ xs) (sym (append_assoc h.0 (h.1 ∷ h.2) k.0) ∙ ap (λ (xs : List Mark). xs ++ k.0) h.4) ∙ k.1,
)

took_some : {C : Type 0} (takes : C → C → List Mark → Type 0) (first now new : C) (pre : List Mark) → takes first now pre → new ≡ now → TookSome takes first new
took_some takes first now new pre t e = (pre, subst (λ x. takes first x pre) (sym e) t)

some_on : {C : Type 0} (takes : C → C → List Mark → Type 0) → ((a b c : C) (xs ys : List Mark) → takes a b xs → takes b c ys → takes a c (xs ++ ys)) → (first now new : C) (pre : List Mark) → takes first now pre → TookSome takes now new → TookSome takes first new
some_on takes chains first now new pre t h = (pre ++ h.0, chains first now new pre h.0 t h.1)

-- a walk that stopped, seen from where it began: pre were taken before
pub stop_on : {C F : Type 0} (takes : C → C → List Mark → Type 0) (refuses : C → C → List Mark → Mark → F → Type 0) → ((a b c : C) (xs ys : List Mark) → takes a b xs → takes b c ys → takes a c (xs ++ ys)) → ((a b c : C) (xs ys : List Mark) (m : Mark) (f : F) → takes a b xs → refuses b c ys m f → refuses a c (xs ++ ys) m f) → (first now new : C) (pre : List Mark) → takes first now pre → (o all : Option (List Mark)) → Covers pre o all → (e : WalkFault F) → Stops takes refuses now new o e → Stops takes refuses first new all e
stop_on takes refuses chains law first now new pre t o all k (fault.Canvas f) h = refuse_on takes refuses law first now new f pre t o all k h
stop_on takes refuses chains law first now new pre t o all k fault.TooManySteps h = some_on takes chains first now new pre t h
stop_on takes refuses chains law first now new pre t o all k (fault.StackDeep x) h = some_on takes chains first now new pre t h
stop_on takes refuses chains law first now new pre t o all k (fault.StackUnder x) h = (none_on pre o all k h.0, some_on takes chains first now new pre t h.1)
stop_on takes refuses chains law first now new pre t o all k (fault.StackLeft x) h = (none_on pre o all k h.0, some_on takes chains first now new pre t h.1)
stop_on takes refuses chains law first now new pre t o all k (fault.NestDeep i c) h = (none_on pre o all k h.0, some_on takes chains first now new pre t h.1)
stop_on takes refuses chains law first now new pre t o all k (fault.Overflow x) h = (none_on pre o all k h.0, some_on takes chains first now new pre t h.1)

-- ---- a push that is left open

left_open : (m : Meaning) (s : State) (os : List Place) → 0 < length os → walk m [] os s ≡ None
unfolding walk
left_open m s [] h = absurd (omega arith)
left_open m s (o ∷ os) h = refl

pub none_left : (m : Meaning) (taken : List Mark) (s : State) (os : List Place) (o : Outcome) → o ≡ prepend taken (walk m [] os s) → 0 < length os → marks_alone o ≡ None
none_left m taken s os o e h = ap marks_alone (e ∙ ap (prepend taken) (left_open m s os h))

-- ---- causes

-- the moment before the next command
pub moment : {C : Type 0} (takes : C → C → List Mark → Type 0) (m : Meaning) (s0 : State) (cs : List Placed) (ahead : List ℕ) (at : ℕ) (first now : C) (os : List Place) (s : State) (go : Going takes m s0 cs ahead at first now os s) (c : Placed) (behind : List Placed) (cmd : Command) → go.rest ≡ c ∷ behind → c.command ≡ cmd → c.place ≡ at → Moment m s0 cs at
moment takes m s0 cs ahead at first now os s go c behind cmd e k p =
    let same : c ≡ record { place = at; command = cmd } = ap (λ (x : ℕ). record { place = x; command = c.command }) p ∙ ap (λ (d : Command). record { place = at; command = d }) k in
    record {
      before = go.before;
      command = cmd;
      behind = behind;
      pushes = os;
      state = s;
      whole = ap (λ (x : Placed). go.before ++ x ∷ behind) (sym same) ∙ ap (λ (xs : List Placed). go.before ++ xs) (sym e) ∙ go.split;
      left = go.left;
    }

-- the frame's cause, where a command's is known
pub cause_next : {C F : Type 0} (takes : C → C → List Mark → Type 0) (m : Meaning) (s0 : State) (cs : List Placed) (ahead : List ℕ) (at : ℕ) (first now : C) (os : List Place) (s : State) (go : Going takes m s0 cs ahead at first now os s) (c : Placed) (behind : List Placed) (cmd : Command) → go.rest ≡ c ∷ behind → c.command ≡ cmd → c.place ≡ at → (inside : ℕ → Option ℕ → ℤ → Place → WalkFault F → Type 0) (spots : ℕ → Spot) (end around : ℕ) (e : WalkFault F) → IsTurnCause m (spots at) around (inside (around + length os)) cmd os s e → IsCauseBy inside m s0 cs spots end around e
unfolding moment
cause_next takes m s0 cs ahead at first now os s go c behind cmd e k p inside spots end around f h = inl (at, moment takes m s0 cs ahead at first now os s go c behind cmd e k p, h)

-- ---- conditions of canvases

pub same_start : {C : Type 0} (can : C → Mark → Type 0) (c : C) → SameCondition can c c
same_start can c m = ((λ h. h), (λ h. h))

pub same_chain : {C : Type 0} (can : C → Mark → Type 0) (a b c : C) → SameCondition can a b → SameCondition can b c → SameCondition can a c
same_chain can a b c h k m = ((λ x. (k m).0 ((h m).0 x)), (λ x. (h m).1 ((k m).1 x)))

pub can_later : {C : Type 0} (can : C → Mark → Type 0) (sets : Glyph → Type 0) (a b : C) (o : Option (List Mark)) → SameCondition can a b → CanTake can sets a o → CanTake can sets b o
can_later can sets a b o h k m fit among = (h m).0 (k m fit among)
