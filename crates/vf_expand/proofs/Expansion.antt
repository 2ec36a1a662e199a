-- The marks of an expanded tree are those that the walk gives.
use Rattle.std.proofs.Common.{◌≡◌, ℕ, zero, suc, ℤ, pos, negsuc, Bool, true, false, List, [], ◌∷◌, Option, Some, None, refl, sym, ap, ◌∙◌}
use Rattle.std.specs.Prelude.{◌&&◌, if◌then◌else◌}
use Rattle.dvi_ops.specs.Command.{Command}
use Rattle.dvi_ops.specs.Command.Command.{Set, Put, Fnt}
use Rattle.dvi_ops.specs.Placed.{Placed}
use Rattle.positions.specs.Place.{Place}
use Rattle.positions.specs.Mark.{Mark}
use Rattle.font_set.specs.Key.{Key}
use Rattle.font_set.specs.Tree.{Tree, tree_of}
use Rattle.font_set.specs.Tree.Tree.{End, Then, Group}
use Rattle.font_set.specs.Fonts.{State, FontSet, place_of, state_at, width_at}
use Rattle.font_set.specs.Programs.{Named, Scope, Program, key_in, id_of, select, key_of_first, first_font, program_at}
use Rattle.font_set.specs.Frames.{selected}
use Rattle.font_set.specs.Expand.{Expanded, plain, in_font, glyph, boxed, grouped, shaped, set_in, node, selected_behind, expand_by, expand_tree, with_first, expand_frame, expand_packet, expand}
use Rattle.vf_expand.specs.Grid as grid
use Rattle.vf_expand.specs.Grid.{Grid}
use Rattle.vf_expand.specs.Meaning.{Showing}
use Rattle.vf_expand.specs.Marks as m
use Rattle.vf_expand.specs.Marks.{Outcome, prepend, after, step, set_char, put_char, at_place, restored, marks, marks_of}
use Rattle.vf_expand.specs.Pages as pages
use Rattle.vf_expand.specs.Pages.{amount_of, sense, meaning, chars, shown, shown_in, run_packet, glyph_at, inner, start_in, frame_by, frame_marks, where_font, first_there}
use Rattle.font_set.specs.Shapes.{shape_by, shape_at, shapes_of}
use Rattle.vf_expand.specs.Shown.{bare, put_or_set, glyph_of, expanded_marks, marks_expanded}

-- what packets give is what their expansions give
abbrev pub Agrees : Grid → FontSet → (Program → Option Expanded) → (Program → Place → Outcome) → Type 0
Agrees g set run walked = (program : Program) (p : Place) → marks_expanded g set (run program) (record { place = p; font = None }) ≡ walked program p

-- ---- outcomes that go on

-- the font behind an outcome, where there is one
abbrev InFont : Option ℕ → Outcome → Type 0
InFont font None = Unit {0}
InFont font (Some r) = r.1.font ≡ font

after_if : (font : Option ℕ) (o : Outcome) (f h : grid.State → Outcome) → InFont font o → ((s : grid.State) → s.font ≡ font → f s ≡ h s) → after o f ≡ after o h
after_if font None f h i e = refl
after_if font (Some r) f h i e = ap (prepend r.0) (e r.1 i)

after_none : (o : Outcome) → after o (λ s. None) ≡ None
after_none None = refl
after_none (Some r) = refl

-- ---- fonts behind commands

at_font : (ms : List Mark) (font : Option ℕ) (p : Option Place) → InFont font (at_place ms font p)
at_font ms font None = tt
at_font ms font (Some p) = refl

set_font : (g : Grid) (s : grid.State) (o : Option (List Mark × ℤ)) → InFont s.font (set_char g s o)
set_font g s None = tt
set_font g s (Some r) = at_font r.0 s.font (m.past_char g r.1 s.place)

put_font : (s : grid.State) (o : Option (List Mark × ℤ)) → InFont s.font (put_char s o)
put_font s None = tt
put_font s (Some r) = refl

moves_font : (g : Grid) (moves : Bool) (s : grid.State) (o : Option (List Mark × ℤ)) → InFont s.font (put_or_set g moves s o)
moves_font g true s o = set_font g s o
moves_font g false s o = put_font s o

sized_font : (a b : ℤ) (font : Option ℕ) (o : Outcome) → InFont font o → InFont font (m.where_sized a b o)
sized_font a b font o h = by (m.is_size a) (m.is_size b)
  where
    by : (x y : Bool) → InFont font (if x && y then o else None)
    by true true = h
    by true false = tt
    by false y = tt

-- ---- characters

none_is : (g : Grid) (moves : Bool) (s : grid.State) (go : grid.State → Outcome) → None ≡ after (put_or_set g moves s None) go
none_is g true s go = refl
none_is g false s go = refl

glyph_is : (g : Grid) (set : FontSet) (key : Key) (id code : ℕ) (w : ℤ) (moves : Bool) (x : Option Expanded) (s : grid.State) → place_of set.fonts key ≡ Some id → marks_expanded g set (glyph key code w moves x) s ≡ after (put_or_set g moves s (Some (glyph_at g id code s.place w ∷ [], w))) (marks_expanded g set x)
unfolding expanded_marks
glyph_is g set key id code w moves None s e = sym (after_none (put_or_set g moves s (Some (glyph_at g id code s.place w ∷ [], w))))
glyph_is g set key id code w moves (Some x) s e = ap (λ (o : Option ℕ). after (put_or_set g moves s (glyph_of g o code s.place w)) (expanded_marks g set x)) e

boxed_is : (g : Grid) (set : FontSet) (key : Key) (code : ℕ) (w : ℤ) (moves : Bool) (n x : Option Expanded) (s : grid.State) → marks_expanded g set (boxed key code w moves n x) s ≡ after (put_or_set g moves s (pages.boxed w (marks_expanded g set n (record { place = inner s.place; font = None })))) (marks_expanded g set x)
unfolding expanded_marks
boxed_is g set key code w moves None x s = none_is g moves s (marks_expanded g set x)
boxed_is g set key code w moves (Some n) None s = sym (after_none (put_or_set g moves s (pages.boxed w (expanded_marks g set n (record { place = inner s.place; font = None })))))
boxed_is g set key code w moves (Some n) (Some x) s = refl

shaped_is : (g : Grid) (set : FontSet) (run : Program → Option Expanded) (walked : Program → Place → Outcome) → Agrees g set run walked → (key : Key) (id code : ℕ) (moves : Bool) (x : Option Expanded) (s : grid.State) → place_of set.fonts key ≡ Some id → (st : State) (pr : Option Program) (wd : Option ℤ) → marks_expanded g set (shaped run key code moves (shape_by st pr wd) x) s ≡ after (put_or_set g moves s (shown_in walked g id code s.place st pr wd)) (marks_expanded g set x)
shaped_is g set run walked a key id code moves x s e st pr None = none_is g moves s (marks_expanded g set x)
shaped_is g set run walked a key id code moves x s e State.Known pr (Some w) = none_is g moves s (marks_expanded g set x)
shaped_is g set run walked a key id code moves x s e (State.Real tfm pk) pr (Some w) = glyph_is g set key id code w moves x s e
shaped_is g set run walked a key id code moves x s e (State.Virtual tfm vf) None (Some w) = none_is g moves s (marks_expanded g set x)
shaped_is g set run walked a key id code moves x s e (State.Virtual tfm vf) (Some program) (Some w) =
    boxed_is g set key code w moves (run program) x s
    ∙ ap (λ (o : Outcome). after (put_or_set g moves s (pages.boxed w o)) (marks_expanded g set x)) (a program (inner s.place))

set_by : (g : Grid) (set : FontSet) (run : Program → Option Expanded) (walked : Program → Place → Outcome) → Agrees g set run walked → (key : Key) (code : ℕ) (moves : Bool) (x : Option Expanded) (s : grid.State) (o : Option ℕ) → place_of set.fonts key ≡ o → marks_expanded g set (shaped run key code moves (shape_at set o code) x) s ≡ after (put_or_set g moves s (shown walked g set o (pos code) s.place)) (marks_expanded g set x)
set_by g set run walked a key code moves x s None e = none_is g moves s (marks_expanded g set x)
set_by g set run walked a key code moves x s (Some id) e = shaped_is g set run walked a key id code moves x s e (state_at set id) (program_at set id code) (width_at set id code)

below_zero : (walked : Program → Place → Outcome) (g : Grid) (set : FontSet) (o : Option ℕ) (n : ℕ) (p : Place) → None ≡ shown walked g set o (negsuc n) p
below_zero walked g set None n p = refl
below_zero walked g set (Some id) n p = refl

set_is : (g : Grid) (set : FontSet) (run : Program → Option Expanded) (walked : Program → Place → Outcome) → Agrees g set run walked → (sel : Option Key) (z : ℤ) (moves : Bool) (x : Option Expanded) (s : grid.State) → s.font ≡ id_of set sel → marks_expanded g set (set_in (shapes_of set) run sel z moves x) s ≡ after (put_or_set g moves s (shown walked g set s.font z s.place)) (marks_expanded g set x)
set_is g set run walked a sel z moves x s e = by sel z ∙ ap (λ (o : Option ℕ). after (put_or_set g moves s (shown walked g set o z s.place)) (marks_expanded g set x)) (sym e)
  where
    by : (sel : Option Key) (z : ℤ) → marks_expanded g set (set_in (shapes_of set) run sel z moves x) s ≡ after (put_or_set g moves s (shown walked g set (id_of set sel) z s.place)) (marks_expanded g set x)
    by None z = none_is g moves s (marks_expanded g set x)
    by (Some key) (negsuc n) = none_is g moves s (marks_expanded g set x) ∙ ap (λ (o : Option (List Mark × ℤ)). after (put_or_set g moves s o) (marks_expanded g set x)) (below_zero walked g set (place_of set.fonts key) n s.place)
    by (Some key) (pos code) = set_by g set run walked a key code moves x s (place_of set.fonts key) refl

-- ---- nodes

-- the rest of a tree gives this, where this font is selected
abbrev Rest : Grid → FontSet → Option ℕ → Option Expanded → (grid.State → Outcome) → Type 0
Rest g set font x go = (s : grid.State) → s.font ≡ font → marks_expanded g set x s ≡ go s

plain_is : (g : Grid) (set : FontSet) (size : Option ℕ) (c : Placed) (x : Option Expanded) (s : grid.State) → marks_expanded g set (plain size c x) s ≡ after (step (bare g set size) c.command s) (marks_expanded g set x)
unfolding expanded_marks
plain_is g set size c None s = sym (after_none (step (bare g set size) c.command s))
plain_is g set size c (Some x) s = refl

in_is : (g : Grid) (set : FontSet) (o : Option Key) (x : Option Expanded) (s : grid.State) → marks_expanded g set (in_font o x) s ≡ after (m.in_font s (id_of set o)) (marks_expanded g set x)
unfolding expanded_marks
in_is g set None x s = refl
in_is g set (Some key) None s = sym (after_none (m.in_font s (place_of set.fonts key)))
in_is g set (Some key) (Some x) s = refl

in_font_font : (s : grid.State) (o : Option ℕ) → InFont o (m.in_font s o)
in_font_font s None = tt
in_font_font s (Some id) = refl

same_font : (font other : Option ℕ) (o : Outcome) → other ≡ font → InFont other o → InFont font o
same_font font other None e h = tt
same_font font other (Some r) e h = h ∙ e

-- the font behind one command
step_font : (g : Grid) (set : FontSet) (scope : Scope) (char : Showing) (sel : Option Key) (c : Command) (s : grid.State) → s.font ≡ id_of set sel → InFont (id_of set (selected scope sel c)) (step (sense g set scope char) c s)
unfolding step select
step_font g set scope char sel (Fnt k) s e = in_font_font s (id_of set (key_in scope.fonts k))
step_font g set scope char sel (Set z) s e = same_font (id_of set sel) s.font (set_char g s (char s.font z s.place)) e (set_font g s (char s.font z s.place))
step_font g set scope char sel (Put z) s e = same_font (id_of set sel) s.font (put_char s (char s.font z s.place)) e (put_font s (char s.font z s.place))
step_font g set scope char sel (Command.SetRule a b) s e =
    let x = amount_of scope.size a in
    let y = amount_of scope.size b in
    let ms = m.rule_marks g s.place x y in
    let q = m.past_rule g y s.place in
    same_font (id_of set sel) s.font (m.where_sized x y (at_place ms s.font q)) e (sized_font x y s.font (at_place ms s.font q) (at_font ms s.font q))
step_font g set scope char sel (Command.PutRule a b) s e =
    let x = amount_of scope.size a in
    let y = amount_of scope.size b in
    let r : List Mark × grid.State = (m.rule_marks g s.place x y, s) in
    same_font (id_of set sel) s.font (m.where_sized x y (Some r)) e (sized_font x y s.font (Some r) refl)
step_font g set scope char sel Command.Nop s e = e
step_font g set scope char sel (Command.FntDef d) s e = e
step_font g set scope char sel (Command.Right q) s e = same_font (id_of set sel) s.font _ e (at_font [] s.font _)
step_font g set scope char sel Command.W0 s e = same_font (id_of set sel) s.font _ e (at_font [] s.font _)
step_font g set scope char sel (Command.W q) s e = same_font (id_of set sel) s.font _ e (at_font [] s.font _)
step_font g set scope char sel Command.X0 s e = same_font (id_of set sel) s.font _ e (at_font [] s.font _)
step_font g set scope char sel (Command.X q) s e = same_font (id_of set sel) s.font _ e (at_font [] s.font _)
step_font g set scope char sel (Command.Down q) s e = same_font (id_of set sel) s.font _ e (at_font [] s.font _)
step_font g set scope char sel Command.Y0 s e = same_font (id_of set sel) s.font _ e (at_font [] s.font _)
step_font g set scope char sel (Command.Y q) s e = same_font (id_of set sel) s.font _ e (at_font [] s.font _)
step_font g set scope char sel Command.Z0 s e = same_font (id_of set sel) s.font _ e (at_font [] s.font _)
step_font g set scope char sel (Command.Z q) s e = same_font (id_of set sel) s.font _ e (at_font [] s.font _)
step_font g set scope char sel (Command.Xxx text) s e = e
step_font g set scope char sel _ s e = tt

node_is : (g : Grid) (set : FontSet) (run : Program → Option Expanded) (walked : Program → Place → Outcome) → Agrees g set run walked → (scope : Scope) (sel : Option Key) (c : Placed) (d : Command) → d ≡ c.command → (x : Option Expanded) (go : grid.State → Outcome) → Rest g set (id_of set (selected scope sel d)) x go → (s : grid.State) → s.font ≡ id_of set sel → marks_expanded g set (node (shapes_of set) run scope sel c d x) s ≡ after (step (sense g set scope (shown walked g set)) d s) go
unfolding step select
node_is g set run walked a scope sel c (Set z) k x go h s e = set_is g set run walked a sel z true x s e ∙ after_if (id_of set sel) (set_char g s (shown walked g set s.font z s.place)) (marks_expanded g set x) go (same_font (id_of set sel) s.font _ e (set_font g s _)) h
node_is g set run walked a scope sel c (Put z) k x go h s e = set_is g set run walked a sel z false x s e ∙ after_if (id_of set sel) (put_char s (shown walked g set s.font z s.place)) (marks_expanded g set x) go (same_font (id_of set sel) s.font _ e (put_font s _)) h
node_is g set run walked a scope sel c (Fnt n) k x go h s e = in_is g set (key_in scope.fonts n) x s ∙ after_if (id_of set (key_in scope.fonts n)) (m.in_font s (id_of set (key_in scope.fonts n))) (marks_expanded g set x) go (in_font_font s (id_of set (key_in scope.fonts n))) h
node_is g set run walked a scope sel c other k x go h s e =
    plain_is g set scope.size c x s ∙ ap (λ (q : Command). after (step (bare g set scope.size) q s) (marks_expanded g set x)) (sym k)
    ∙ after_if (id_of set sel) (step (sense g set scope (shown walked g set)) other s) (marks_expanded g set x) go (step_font g set scope (shown walked g set) sel other s e) h

after_font : (f h : Option ℕ) (o : Outcome) (go : grid.State → Outcome) → InFont f o → ((s : grid.State) → s.font ≡ f → InFont h (go s)) → InFont h (after o go)
after_font f h None go i k = tt
after_font f h (Some r) go i k = by (go r.1) (k r.1 i)
  where
    by : (q : Outcome) → InFont h q → InFont h (prepend r.0 q)
    by None j = tt
    by (Some x) j = j

tree_font : (g : Grid) (set : FontSet) (scope : Scope) (char : Showing) (sel : Option Key) (t : Tree) (s : grid.State) → s.font ≡ id_of set sel → InFont (id_of set (selected_behind scope sel t)) (marks (sense g set scope char) t s)
unfolding marks
tree_font g set scope char sel End s e = e
tree_font g set scope char sel (Then c t) s e =
    after_font (id_of set (selected scope sel c.command)) (id_of set (selected_behind scope (selected scope sel c.command) t)) (step (sense g set scope char) c.command s) (marks (sense g set scope char) t)
    (step_font g set scope char sel c.command s e) (λ r h. tree_font g set scope char (selected scope sel c.command) t r h)
tree_font g set scope char sel (Group p i q t) s e =
    after_font (id_of set (selected_behind scope sel i)) (id_of set (selected_behind scope (selected_behind scope sel i) t)) (marks (sense g set scope char) i s) (λ r. marks (sense g set scope char) t (restored s.place r))
    (tree_font g set scope char sel i s e) (λ r h. tree_font g set scope char (selected_behind scope sel i) t (restored s.place r) h)

group_is : (g : Grid) (set : FontSet) (i x : Option Expanded) (s : grid.State) → marks_expanded g set (grouped i x) s ≡ after (marks_expanded g set i s) (λ r. marks_expanded g set x (restored s.place r))
unfolding expanded_marks
group_is g set None x s = refl
group_is g set (Some i) None s = sym (after_none (expanded_marks g set i s))
group_is g set (Some i) (Some x) s = refl

by_is : (g : Grid) (set : FontSet) (run : Program → Option Expanded) (walked : Program → Place → Outcome) → Agrees g set run walked → (scope : Scope) (sel : Option Key) (t : Tree) (s : grid.State) → s.font ≡ id_of set sel → marks_expanded g set (expand_by (shapes_of set) run scope sel t) s ≡ marks (sense g set scope (shown walked g set)) t s
unfolding marks expanded_marks
by_is g set run walked a scope sel End s e = refl
by_is g set run walked a scope sel (Then c t) s e =
    node_is g set run walked a scope sel c c.command refl (expand_by (shapes_of set) run scope (selected scope sel c.command) t) (marks (sense g set scope (shown walked g set)) t)
    (λ r h. by_is g set run walked a scope (selected scope sel c.command) t r h) s e
by_is g set run walked a scope sel (Group p i q t) s e =
    let me = sense g set scope (shown walked g set) in
    group_is g set (expand_by (shapes_of set) run scope sel i) (expand_by (shapes_of set) run scope (selected_behind scope sel i) t) s
    ∙ ap (λ (o : Outcome). after o (λ r. marks_expanded g set (expand_by (shapes_of set) run scope (selected_behind scope sel i) t) (restored s.place r))) (by_is g set run walked a scope sel i s e)
    ∙ after_if (id_of set (selected_behind scope sel i)) (marks me i s) (λ r. marks_expanded g set (expand_by (shapes_of set) run scope (selected_behind scope sel i) t) (restored s.place r)) (λ r. marks me t (restored s.place r))
    (tree_font g set scope (shown walked g set) sel i s e) (λ r h. by_is g set run walked a scope (selected_behind scope sel i) t (restored s.place r) h)

-- ---- frames

tree_is : (g : Grid) (set : FontSet) (run : Program → Option Expanded) (walked : Program → Place → Outcome) → Agrees g set run walked → (scope : Scope) (sel : Option Key) (t : Option Tree) (s : grid.State) → s.font ≡ id_of set sel → marks_expanded g set (expand_tree (shapes_of set) run scope sel t) s ≡ marks_of (sense g set scope (shown walked g set)) t s
tree_is g set run walked a scope sel None s e = refl
tree_is g set run walked a scope sel (Some t) s e = by_is g set run walked a scope sel t s e

start_is : (o : Outcome) → prepend [] o ≡ o
start_is None = refl
start_is (Some r) = refl

font_is : (font : Option ℕ) (p : Place) (go : grid.State → Outcome) → after (m.in_font (record { place = p; font = None }) font) go ≡ where_font font (go (record { place = p; font = font }))
font_is None p go = refl
font_is (Some id) p go = start_is (go (record { place = p; font = Some id }))

first_is : (g : Grid) (set : FontSet) (run : Program → Option Expanded) (walked : Program → Place → Outcome) → Agrees g set run walked → (scope : Scope) (first : Option Named) (t : Option Tree) (p : Place) → marks_expanded g set (with_first (shapes_of set) run scope first t) (record { place = p; font = None }) ≡ first_there set first (marks_of (sense g set scope (shown walked g set)) t (record { place = p; font = id_of set (key_of_first first) }))
first_is g set run walked a scope None t p = tree_is g set run walked a scope None t (record { place = p; font = None }) refl
first_is g set run walked a scope (Some f) t p =
    in_is g set f.key (expand_tree (shapes_of set) run scope f.key t) (record { place = p; font = None })
    ∙ font_is (id_of set f.key) p (marks_expanded g set (expand_tree (shapes_of set) run scope f.key t))
    ∙ ap (where_font (id_of set f.key)) (tree_is g set run walked a scope f.key t (record { place = p; font = id_of set f.key }) refl)

frame_is : (g : Grid) (set : FontSet) (run : Program → Option Expanded) (walked : Program → Place → Outcome) → Agrees g set run walked → (program : Program) (p : Place) → marks_expanded g set (expand_frame (shapes_of set) run program) (record { place = p; font = None }) ≡ first_there set program.first (frame_by g set (shown walked g set) program p)
unfolding first_font
frame_is g set run walked a program p = first_is g set run walked a program.scope program.first (tree_of program.commands) p

-- packets nested at most n deep
abbrev walked_at : Grid → FontSet → ℕ → Program → Place → Outcome
walked_at g set zero program p = None
walked_at g set (suc n) program p = first_there set program.first (frame_by g set (chars g set n) program p)

chars_is : (g : Grid) (set : FontSet) (n : ℕ) → chars g set n ≡ shown (walked_at g set n) g set
unfolding chars
chars_is g set zero = refl
chars_is g set (suc n) = refl

agree : (g : Grid) (set : FontSet) (n : ℕ) → Agrees g set (expand_packet (shapes_of set) n) (walked_at g set n)
unfolding expand_packet
agree g set zero program p = refl
agree g set (suc n) program p =
    frame_is g set (expand_packet (shapes_of set) n) (walked_at g set n) (agree g set n) program p
    ∙ ap (λ (char : Showing). first_there set program.first (frame_by g set char program p)) (sym (chars_is g set n))

-- The marks of the expanded tree of a frame are what the walk gives, where its first font is there, and else neither is defined.
pub expanding : (g : Grid) (set : FontSet) (n : ℕ) (program : Program) (p : Place) → marks_expanded g set (expand (shapes_of set) n program) (record { place = p; font = None }) ≡ first_there set program.first (frame_marks g set n program p)
expanding g set n program p =
    frame_is g set (expand_packet (shapes_of set) n) (walked_at g set n) (agree g set n) program p
    ∙ ap (λ (char : Showing). first_there set program.first (frame_by g set char program p)) (sym (chars_is g set n))
