-- How far a walk over bytes has come.
use Rattle.std.proofs.Common.{◌≡◌, ◌≤◌, ◌<◌, ◌+◌, ◌-◌, ℕ, ℤ, List, [], ◌∷◌, ◌++◌, length, drop, reverse, Option, Some, None, refl, sym, ap, subst, ◌∙◌, append_assoc, arith, slice_range, length-append, length-drop}
use Rattle.std.proofs.lemmas.List.{append-nil, drop_at, drop-append-le, reverse-append, length-reverse}
use Rattle.std.proofs.Math.Seq.{drop-length}
use Rattle.std.proofs.lemmas.List.Folds.{drop_split}
use Rattle.dvi_ops.specs.Command.{Command}
use Rattle.dvi_ops.specs.Spelling.{Spell}
use Rattle.dvi_ops.specs.View.{NoSpelling}
use Rattle.dvi_ops.specs.Laws.{OneSpelling}
use Rattle.positions.specs.Place.{Place}
use Rattle.positions.specs.Mark.{Mark}
use Rattle.dvi_ops.specs.Placed.{Placed, Lexes}
use Rattle.vf_expand.specs.Grid.{State}
use Rattle.vf_expand.specs.Meaning.{Meaning}
use Rattle.font_set.specs.Tree.{tree_of}
use Rattle.vf_expand.specs.Marks.{Outcome, prepend, marks_of}
use Rattle.vf_expand.specs.Turn.{Turn, turned, Standing, left_behind, left_from, left_by, open_at}
use Rattle.vf_expand.specs.Takes.{TookPage, FollowsTurn}
use Rattle.vf_expand.specs.Shallow.{FindsRoom, AllFindRoom}
use Rattle.vf_expand.proofs.Rooms.{room_nil, room_next}
use Rattle.vf_expand.proofs.Walk.{walk, go_on, walk_turn, walk_end, walk_page, prepend_twice, prepend_none}

-- At a place of the bytes: the commands before it leave these pushes and this state, and the marks of all commands are those that
-- were taken and then those of the rest.
pub record Going {C : Type 0} (takes : C → C → List Mark → Type 0) (m : Meaning) (s0 : State) (cs : List Placed) (ahead : List ℕ) (at : ℕ) (first now : C) (os : List Place) (s : State) : Type 0 where
  pub before : List Placed
  pub rest : List Placed
  pub split : before ++ rest ≡ cs
  pub lexed : Lexes at ahead rest
  pub left : left_by m s0 before ≡ Some (record { pushes = os; state = s })
  pub taken : List Mark
  pub took : takes first now taken
  pub same : walk m cs [] s0 ≡ prepend taken (walk m rest os s)

left_none : (m : Meaning) (s : State) → left_by m s [] ≡ Some (record { pushes = []; state = s })
unfolding left_by
left_none m s = refl

pub start : {C : Type 0} (takes : C → C → List Mark → Type 0) (m : Meaning) (s0 : State) (cs : List Placed) (bytes : List ℕ) (at : ℕ) (first : C) (os : List Place) (s : State) → takes first first [] → Lexes at bytes cs → os ≡ [] → s ≡ s0 → Going takes m s0 cs bytes at first first os s
start takes m s0 cs bytes at first os s none l e k =
    record {
      before = [];
      rest = cs;
      split = refl;
      lexed = l;
      left = left_none m s0 ∙ ap (λ (ps : List Place). Some (record { pushes = ps; state = s0 })) (sym e) ∙ ap (λ (x : State). Some (record { pushes = os; state = x })) (sym k);
      taken = [];
      took = none;
      same = ap (λ (ps : List Place). walk m cs ps s0) (sym e) ∙ ap (λ (x : State). walk m cs os x) (sym k) ∙ sym (prepend_none (walk m cs os s));
    }

-- the first command of the rest is the one that is spelled there
pub lexed_next : OneSpelling → (bytes : List ℕ) (from at end : ℕ) (cmd : Command) (rest : List Placed) → at < end → end ≤ length bytes → Spell cmd (slice_range bytes at end) → Lexes (from + at) (drop at bytes) rest → (c : Placed) × (cs : List Placed) × (rest ≡ c ∷ cs) × (c.command ≡ cmd) × (c.place ≡ from + at) × Lexes (from + end) (drop end bytes) cs
lexed_next one bytes from at end cmd [] a b s l = absurd (omega (arith, length-drop at bytes, ap length l))
lexed_next one bytes from at end cmd (c ∷ cs) a b s l =
    let front = slice_range bytes at end in
    let split : drop at bytes ≡ front ++ drop end bytes = drop_split bytes at end (omega arith) in
    let both : l.1 ++ l.2 ≡ front ++ drop end bytes = sym l.3 ∙ split in
    let law = one l.1 front c.command cmd l.2 (drop end bytes) l.4 s both in
    let long : length front + (length bytes - end) ≡ length bytes - at = omega (arith, ap length split, length-append front (drop end bytes), length-drop at bytes, length-drop end bytes) in
    let width : from + at + length l.1 ≡ from + end = omega (arith, ap length law.0) in
    let behind : l.2 ≡ drop end bytes = sym (drop_at l.1 l.2 (length l.1) refl) ∙ ap (drop (length l.1)) both ∙ drop_at front (drop end bytes) (length l.1) (ap length (sym law.0)) in
    (c, cs, refl, law.1, l.0, subst (λ (k : ℕ). Lexes k (drop end bytes) cs) width (subst (λ (bs : List ℕ). Lexes (from + at + length l.1) bs cs) behind l.5))

-- ---- what the commands before leave

same_standing : (a b : Standing) → Some a ≡ Some b → a ≡ b
same_standing a b e = cc

left_more : (g : Meaning) (xs : List Placed) (c : Placed) (os ps : List Place) (s r : State) (t : Turn) → left_from g xs os s ≡ Some (record { pushes = ps; state = r }) → turned g c.command ps r ≡ Some t → left_from g (xs ++ c ∷ []) os s ≡ Some (record { pushes = t.pushes; state = t.state })
left_more g [] c os ps s r t e k =
    let a : Standing = record { pushes = os; state = s } in
    let b : Standing = record { pushes = ps; state = r } in
    let both : a ≡ b = same_standing a b e in
    let p : os ≡ ps = ap (λ (a : Standing). a.pushes) both in
    let q : s ≡ r = ap (λ (a : Standing). a.state) both in
    let h : turned g c.command os s ≡ Some t = rw (p, q) k in
    ap (λ (x : Option Turn). left_behind x (left_from g [])) h
left_more g (x ∷ xs) c os ps s r t e k = behind (turned g x.command os s) (λ u h. left_more g xs c u.pushes ps u.state r t h k) e
  where
    behind : (o : Option Turn) → ((u : Turn) → left_from g xs u.pushes u.state ≡ Some (record { pushes = ps; state = r }) → left_from g (xs ++ c ∷ []) u.pushes u.state ≡ Some (record { pushes = t.pushes; state = t.state })) → left_behind o (left_from g xs) ≡ Some (record { pushes = ps; state = r }) → left_behind o (left_from g (xs ++ c ∷ [])) ≡ Some (record { pushes = t.pushes; state = t.state })
    behind None f h = absurd cc
    behind (Some u) f h = f u h

pub left_next : (m : Meaning) (s0 : State) (xs : List Placed) (c : Placed) (ps : List Place) (r : State) (t : Turn) → left_by m s0 xs ≡ Some (record { pushes = ps; state = r }) → turned m c.command ps r ≡ Some t → left_by m s0 (xs ++ c ∷ []) ≡ Some (record { pushes = t.pushes; state = t.state })
unfolding left_by
left_next m s0 xs c ps r t e k = left_more m xs c [] ps s0 r t e k

-- ---- one command further

pub record Went {C : Type 0} (takes : C → C → List Mark → Type 0) (o : Option Turn) (now new : C) (os : List Place) (s : State) : Type 0 where
  pub turn : Turn
  pub there : o ≡ Some turn
  pub took : takes now new turn.marks
  pub pushes : turn.pushes ≡ os
  pub state : turn.state ≡ s

pub went : {C : Type 0} (takes : C → C → List Mark → Type 0) (o : Option Turn) (now new : C) (os : List Place) (s : State) → FollowsTurn takes now new os s o → Went takes o now new os s
went takes None now new os s h = absurd h
went takes (Some t) now new os s h = record { turn = t; there = refl; took = h.0; pushes = h.1; state = h.2 }

pub more : {C : Type 0} (takes : C → C → List Mark → Type 0) → ((a b c : C) (xs ys : List Mark) → takes a b xs → takes b c ys → takes a c (xs ++ ys)) → OneSpelling → (m : Meaning) (s0 : State) (cs : List Placed) (bytes : List ℕ) (from at end : ℕ) (cmd : Command) (first now new : C) (os ps : List Place) (s t : State) → at < end → end ≤ length bytes → Spell cmd (slice_range bytes at end) → Going takes m s0 cs (drop at bytes) (from + at) first now os s → FollowsTurn takes now new ps t (turned m cmd os s) → Going takes m s0 cs (drop end bytes) (from + end) first new ps t
more takes chains one m s0 cs bytes from at end cmd first now new os ps s t a b sp go h =
    let n = lexed_next one bytes from at end cmd go.rest a b sp go.lexed in
    let w = went takes (turned m cmd os s) now new ps t h in
    let there : turned m n.0.command os s ≡ Some w.turn = ap (λ (d : Command). turned m d os s) n.3 ∙ w.there in
    record {
      before = go.before ++ n.0 ∷ [];
      rest = n.1;
      split = append_assoc go.before (n.0 ∷ []) n.1 ∙ ap (λ (xs : List Placed). go.before ++ xs) (sym n.2) ∙ go.split;
      lexed = n.5;
      left =
          left_next m s0 go.before n.0 os s w.turn go.left there
          ∙ ap (λ (xs : List Place). Some (record { pushes = xs; state = w.turn.state })) w.pushes
          ∙ ap (λ (x : State). Some (record { pushes = ps; state = x })) w.state;
      taken = go.taken ++ w.turn.marks;
      took = chains first now new go.taken w.turn.marks go.took w.took;
      same =
          go.same
          ∙ ap (λ (xs : List Placed). prepend go.taken (walk m xs os s)) n.2
          ∙ ap (prepend go.taken)
          (walk_turn m n.0 n.1 os s
          ∙ ap (λ (o : Option Turn). go_on o (walk m n.1)) there
          ∙ ap (λ (xs : List Place). prepend w.turn.marks (walk m n.1 xs w.turn.state)) w.pushes
          ∙ ap (λ (x : State). prepend w.turn.marks (walk m n.1 ps x)) w.state)
          ∙ prepend_twice go.taken w.turn.marks (walk m n.1 ps t);
    }

-- ---- the end of the bytes

took_page : {C : Type 0} (takes : C → C → List Mark → Type 0) (first now : C) (ms : List Mark) (s : State) (o : Outcome) → takes first now ms → o ≡ Some (ms, s) → TookPage takes first now o
took_page takes first now ms s o h e = subst (λ (x : Outcome). TookPage takes first now x) (sym e) h

no_command : (front behind : List ℕ) (cmd : Command) → Spell cmd front → front ++ behind ≡ [] → ⊥
no_command [] behind cmd s e = s
no_command (x ∷ xs) behind cmd s e = cc

pub rest_nil : (at : ℕ) (ahead : List ℕ) (rest : List Placed) → ahead ≡ [] → Lexes at ahead rest → rest ≡ []
rest_nil at ahead [] e l = refl
rest_nil at ahead (c ∷ cs) e l = absurd (no_command l.1 l.2 c.command l.4 (sym l.3 ∙ e))

pub at_end : {C : Type 0} (takes : C → C → List Mark → Type 0) (m : Meaning) (s0 : State) (cs : List Placed) (ahead : List ℕ) (at : ℕ) (first now : C) (os : List Place) (s : State) → ahead ≡ [] → (go : Going takes m s0 cs ahead at first now os s) → marks_of m (tree_of cs) s0 ≡ prepend go.taken (walk m [] os s)
at_end takes m s0 cs ahead at first now os s e go =
    sym (walk_page m cs s0) ∙ go.same ∙ ap (λ (xs : List Placed). prepend go.taken (walk m xs os s)) (rest_nil at ahead go.rest e go.lexed)

pub finish : {C : Type 0} (takes : C → C → List Mark → Type 0) (m : Meaning) (s0 : State) (cs : List Placed) (ahead : List ℕ) (at : ℕ) (first now : C) (os : List Place) (s : State) → ahead ≡ [] → os ≡ [] → Going takes m s0 cs ahead at first now os s → TookPage takes first now (marks_of m (tree_of cs) s0)
finish takes m s0 cs ahead at first now os s e f go =
    took_page takes first now go.taken s _ go.took
    (at_end takes m s0 cs ahead at first now os s e go
    ∙ ap (λ (ps : List Place). prepend go.taken (walk m [] ps s)) f
    ∙ ap (prepend go.taken) (walk_end m s)
    ∙ ap (λ (ms : List Mark). Some (ms, s)) (append-nil go.taken))

all_run : {C : Type 0} (takes : C → C → List Mark → Type 0) (m : Meaning) (s0 : State) (cs : List Placed) (ahead : List ℕ) (at : ℕ) (first now : C) (os : List Place) (s : State) → ahead ≡ [] → (go : Going takes m s0 cs ahead at first now os s) → go.before ≡ cs
all_run takes m s0 cs ahead at first now os s e go =
    sym (append-nil go.before) ∙ ap (λ (xs : List Placed). go.before ++ xs) (sym (rest_nil at ahead go.rest e go.lexed)) ∙ go.split

-- all commands have been run
pub left_all : {C : Type 0} (takes : C → C → List Mark → Type 0) (m : Meaning) (s0 : State) (cs : List Placed) (ahead : List ℕ) (at : ℕ) (first now : C) (os : List Place) (s : State) → ahead ≡ [] → Going takes m s0 cs ahead at first now os s → left_by m s0 cs ≡ Some (record { pushes = os; state = s })
left_all takes m s0 cs ahead at first now os s e go = ap (left_by m s0) (sym (all_run takes m s0 cs ahead at first now os s e go)) ∙ go.left

-- ---- room for pushes

pub start_room : {C : Type 0} (takes : C → C → List Mark → Type 0) (m : Meaning) (s0 : State) (cs : List Placed) (bytes : List ℕ) (at : ℕ) (first : C) (os : List Place) (s : State) → takes first first [] → Lexes at bytes cs → os ≡ [] → s ≡ s0 → (inside : ℕ → Option ℕ → ℤ → Place → Type 0) (around : ℕ) → (go : Going takes m s0 cs bytes at first first os s) × AllFindRoom inside m s0 go.before around
unfolding start
start_room takes m s0 cs bytes at first os s none l e k inside around = (start takes m s0 cs bytes at first os s none l e k, room_nil inside m s0 around)

pub more_room : {C : Type 0} (takes : C → C → List Mark → Type 0) → ((a b c : C) (xs ys : List Mark) → takes a b xs → takes b c ys → takes a c (xs ++ ys)) → OneSpelling → (m : Meaning) (s0 : State) (cs : List Placed) (bytes : List ℕ) (from at end : ℕ) (cmd : Command) (first now new : C) (os ps : List Place) (s t : State) → at < end → end ≤ length bytes → Spell cmd (slice_range bytes at end) → (go : Going takes m s0 cs (drop at bytes) (from + at) first now os s) → FollowsTurn takes now new ps t (turned m cmd os s)
    → (inside : ℕ → Option ℕ → ℤ → Place → Type 0) (around : ℕ) → AllFindRoom inside m s0 go.before around → FindsRoom inside around cmd os s → (further : Going takes m s0 cs (drop end bytes) (from + end) first new ps t) × AllFindRoom inside m s0 further.before around
unfolding more
more_room takes chains one m s0 cs bytes from at end cmd first now new os ps s t a b sp go h inside around room here =
    let n = lexed_next one bytes from at end cmd go.rest a b sp go.lexed in (
      more takes chains one m s0 cs bytes from at end cmd first now new os ps s t a b sp go h,
      room_next inside m s0 go.before n.0 os s around room go.left (subst (λ (d : Command). FindsRoom inside around d os s) (sym n.3) here),
    )

pub room_all : {C : Type 0} (takes : C → C → List Mark → Type 0) (m : Meaning) (s0 : State) (cs : List Placed) (ahead : List ℕ) (at : ℕ) (first now : C) (os : List Place) (s : State) → ahead ≡ [] → (go : Going takes m s0 cs ahead at first now os s) → (inside : ℕ → Option ℕ → ℤ → Place → Type 0) (around : ℕ) → AllFindRoom inside m s0 go.before around → AllFindRoom inside m s0 cs around
room_all takes m s0 cs ahead at first now os s e go inside around h = subst (λ (xs : List Placed). AllFindRoom inside m s0 xs around) (all_run takes m s0 cs ahead at first now os s e go) h

-- ---- the shared stack

pub none_open : (base : ℕ) (items : List Place) → base ≡ length items → open_at base items ≡ []
unfolding open_at
none_open base items e = ap (λ k. reverse (drop k items)) e ∙ ap reverse (drop-length items)

pub pushed : (base : ℕ) (items : List Place) (p : Place) → base ≤ length items → open_at base (items ++ p ∷ []) ≡ p ∷ open_at base items
unfolding open_at
pushed base items p h = ap reverse (drop-append-le base items (p ∷ []) h) ∙ reverse-append (drop base items) (p ∷ [])

-- all that are open, those below counted
pub as_many : (base : ℕ) (items : List Place) → base ≤ length items → base + length (open_at base items) ≡ length items
unfolding open_at
as_many base items h = omega (arith, length-reverse (drop base items), length-drop base items)

-- ---- a command of the bytes is no fault

pub no_fault : (bytes : List ℕ) (from at : ℕ) (rest : List Placed) → at < length bytes → NoSpelling bytes at → Lexes (from + at) (drop at bytes) rest → ⊥
no_fault bytes from at [] h f l = omega (arith, length-drop at bytes, ap length l)
no_fault bytes from at (c ∷ cs) h f l = f c.command l.1 l.2 l.3 l.4
