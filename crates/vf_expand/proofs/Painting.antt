-- Each rule among the marks of a page is painted.
use Rattle.std.proofs.Common.{◌≡◌, ℕ, zero, suc, ℤ, pos, negsuc, Bool, true, false, List, [], ◌∷◌, ◌++◌, Option, Some, None, refl, subst}
use Rattle.std.specs.Prelude.{if◌then◌else◌, ◌&&◌, int_lt}
use Rattle.std.specs.List.{AllByRecursion}
use Rattle.dvi_ops.specs.Command.{Command}
use Rattle.dvi_ops.specs.Command.Command.{Bop, Down, Eop, Fnt, FntDef, Nop, Pop, Post, PostPost, Pre, Push, Put, PutRule, Right, Set, SetRule, W, W0, X, X0, Xxx, Y, Y0, Z, Z0}
use Rattle.positions.specs.Mark.{Mark}
use Rattle.positions.specs.Place.{Place, origin}
use Rattle.font_set.specs.Fonts as sets
use Rattle.font_set.specs.Fonts.{FontSet, state_at, width_at}
use Rattle.font_set.specs.Programs.{Named, Program, Scope, id_of, program_at, select}
use Rattle.font_set.specs.Tree.{Tree, tree_of}
use Rattle.font_set.specs.Tree.Tree.{End, Then, Group}
use Rattle.vf_expand.specs.Grid.{Grid, State}
use Rattle.vf_expand.specs.Meaning.{Meaning, Showing}
use Rattle.vf_expand.specs.Marks.{Outcome, after, at_place, down_by, in_font, is_size, marks, marks_alone, marks_of, past_char, past_rule, prepend, put_char, restored, right_by, rule_at, rule_marks, set_char, step, where_sized}
use Rattle.vf_expand.specs.Pages.{amount_of, boxed, chars, first_there, frame_by, frame_marks, inner, most_nested, run_packet, sense, shown, shown_in, space_of, start_in, where_font}
use Rattle.vf_expand.specs.Rules.{IsInked, RulesArePainted}

abbrev AllInked : List Mark → Type 0
AllInked ms = AllByRecursion IsInked ms

abbrev Inked : Outcome → Type 0
Inked None = Unit {0}
Inked (Some r) = AllInked r.0

abbrev InkedChar : Option (List Mark × ℤ) → Type 0
InkedChar None = Unit {0}
InkedChar (Some r) = AllInked r.0

both : (ms ns : List Mark) → AllInked ms → AllInked ns → AllInked (ms ++ ns)
both [] ns h k = k
both (m ∷ ms) ns h k = (h.0, both ms ns h.1 k)

-- ---- outcomes

placed : (ms : List Mark) (font : Option ℕ) (o : Option Place) → AllInked ms → Inked (at_place ms font o)
placed ms font None h = tt
placed ms font (Some p) h = h

set_inked : (g : Grid) (s : State) (o : Option (List Mark × ℤ)) → InkedChar o → Inked (set_char g s o)
set_inked g s None h = tt
set_inked g s (Some r) h = placed r.0 s.font (past_char g r.1 s.place) h

put_inked : (s : State) (o : Option (List Mark × ℤ)) → InkedChar o → Inked (put_char s o)
put_inked s None h = tt
put_inked s (Some r) h = h

font_inked : (s : State) (o : Option ℕ) → Inked (in_font s o)
font_inked s None = tt
font_inked s (Some id) = tt

sized : (a b : ℤ) (o : Outcome) → Inked o → Inked (where_sized a b o)
sized a b o h = by (is_size a && is_size b)
  where
    by : (t : Bool) → Inked (if t then o else None)
    by true = h
    by false = tt

rule : (g : Grid) (p : Place) (a b : ℤ) → AllInked (rule_marks g p a b)
rule g p a b = by (int_lt (pos 0) a && int_lt (pos 0) b) refl
  where
    by : (t : Bool) → (int_lt (pos 0) a && int_lt (pos 0) b) ≡ t → AllInked (if t then rule_at g p a b ∷ [] else [])
    by true e = (e, tt)
    by false e = tt

prepended : (ms : List Mark) (o : Outcome) → AllInked ms → Inked o → Inked (prepend ms o)
prepended ms None h k = tt
prepended ms (Some r) h k = both ms r.0 h k

behind : (o : Outcome) (f : State → Outcome) → Inked o → ((s : State) → Inked (f s)) → Inked (after o f)
behind None f h k = tt
behind (Some r) f h k = prepended r.0 (f r.1) h (k r.1)

-- ---- commands

module _ (g : Grid) (set : FontSet) (scope : Scope) (char : Showing) (w : (font : Option ℕ) (z : ℤ) (p : Place) → InkedChar (char font z p)) where
  abbrev m : Meaning
  m = sense g set scope char

  abbrev unit : ℤ → ℤ
  unit q = amount_of scope.size q

  step_inked : (c : Command) (s : State) → Inked (step m c s)
  unfolding step
  step_inked (Set z) s = set_inked g s (char s.font z s.place) (w s.font z s.place)
  step_inked (Put z) s = put_inked s (char s.font z s.place) (w s.font z s.place)
  step_inked (Fnt k) s = font_inked s (select set scope k)
  step_inked (SetRule a b) s =
      sized (unit a) (unit b) (at_place (rule_marks g s.place (unit a) (unit b)) s.font (past_rule g (unit b) s.place))
      (placed (rule_marks g s.place (unit a) (unit b)) s.font (past_rule g (unit b) s.place) (rule g s.place (unit a) (unit b)))
  step_inked (PutRule a b) s = sized (unit a) (unit b) (Some (rule_marks g s.place (unit a) (unit b), s)) (rule g s.place (unit a) (unit b))
  step_inked Nop s = tt
  step_inked (FntDef d) s = tt
  step_inked (Xxx text) s = (tt, tt)
  step_inked (Right q) s = placed [] s.font (right_by g (space_of set s.font) (unit q) s.place) tt
  step_inked W0 s = placed [] s.font (right_by g (space_of set s.font) s.place.w s.place) tt
  step_inked (W q) s = placed [] s.font (right_by g (space_of set s.font) (unit q) (record s.place { w = unit q })) tt
  step_inked X0 s = placed [] s.font (right_by g (space_of set s.font) s.place.x s.place) tt
  step_inked (X q) s = placed [] s.font (right_by g (space_of set s.font) (unit q) (record s.place { x = unit q })) tt
  step_inked (Down q) s = placed [] s.font (down_by g (space_of set s.font) (unit q) s.place) tt
  step_inked Y0 s = placed [] s.font (down_by g (space_of set s.font) s.place.y s.place) tt
  step_inked (Y q) s = placed [] s.font (down_by g (space_of set s.font) (unit q) (record s.place { y = unit q })) tt
  step_inked Z0 s = placed [] s.font (down_by g (space_of set s.font) s.place.z s.place) tt
  step_inked (Z q) s = placed [] s.font (down_by g (space_of set s.font) (unit q) (record s.place { z = unit q })) tt
  step_inked (Bop counts back) s = tt
  step_inked Eop s = tt
  step_inked Push s = tt
  step_inked Pop s = tt
  step_inked (Pre head) s = tt
  step_inked (Post tail) s = tt
  step_inked (PostPost back id) s = tt

  tree_inked : (t : Tree) (s : State) → Inked (marks m t s)
  unfolding marks
  tree_inked End s = tt
  tree_inked (Then c t) s = behind (step m c.command s) (marks m t) (step_inked c.command s) (tree_inked t)
  tree_inked (Group p i q t) s = behind (marks m i s) (λ r. marks m t (restored s.place r)) (tree_inked i s) (λ r. tree_inked t (restored s.place r))

  trees_inked : (o : Option Tree) (s : State) → Inked (marks_of m o s)
  trees_inked None s = tt
  trees_inked (Some t) s = tree_inked t s

-- ---- packets in one another

module _ (g : Grid) (set : FontSet) where
  boxed_inked : (width : ℤ) (o : Outcome) → Inked o → InkedChar (boxed width o)
  boxed_inked width None h = tt
  boxed_inked width (Some r) h = h

  packet_inked : (run : Program → Place → Outcome) → ((program : Program) (p : Place) → Inked (run program p)) → (width : ℤ) (p : Place) (o : Option Program) → InkedChar (run_packet run width p o)
  packet_inked run w width p None = tt
  packet_inked run w width p (Some program) = boxed_inked width (run program (inner p)) (w program (inner p))

  shown_inked : (run : Program → Place → Outcome) → ((program : Program) (p : Place) → Inked (run program p)) → (id code : ℕ) (p : Place) (st : sets.State) (program : Option Program) (o : Option ℤ) → InkedChar (shown_in run g id code p st program o)
  shown_inked run w id code p st program None = tt
  shown_inked run w id code p sets.State.Known program (Some width) = tt
  shown_inked run w id code p (sets.State.Real tfm pk) program (Some width) = (tt, tt)
  shown_inked run w id code p (sets.State.Virtual tfm vf) program (Some width) = packet_inked run w width p program

  char_inked : (run : Program → Place → Outcome) → ((program : Program) (p : Place) → Inked (run program p)) → (font : Option ℕ) (z : ℤ) (p : Place) → InkedChar (shown run g set font z p)
  char_inked run w None z p = tt
  char_inked run w (Some id) (negsuc n) p = tt
  char_inked run w (Some id) (pos code) p = shown_inked run w id code p (state_at set id) (program_at set id code) (width_at set id code)

  there_inked : (o : Option ℕ) (x : Outcome) → Inked x → Inked (where_font o x)
  there_inked None x h = tt
  there_inked (Some id) x h = h

  first_inked : (o : Option Named) (x : Outcome) → Inked x → Inked (first_there set o x)
  first_inked None x h = h
  first_inked (Some f) x h = there_inked (id_of set f.key) x h

  chars_inked : (n : ℕ) (font : Option ℕ) (z : ℤ) (p : Place) → InkedChar (chars g set n font z p)
  unfolding chars
  chars_inked zero font z p = char_inked (λ program q. None) (λ program q. tt) font z p
  chars_inked (suc n) font z p =
      char_inked (λ program q. first_there set program.first (frame_by g set (chars g set n) program q))
      (λ program q. first_inked program.first (frame_by g set (chars g set n) program q) (trees_inked g set program.scope (chars g set n) (chars_inked n) (tree_of program.commands) (start_in set program q)))
      font z p

  frame_inked : (n : ℕ) (program : Program) (p : Place) → Inked (frame_marks g set n program p)
  frame_inked n program p = trees_inked g set program.scope (chars g set n) (chars_inked n) (tree_of program.commands) (start_in set program p)

alone : (o : Outcome) (ms : List Mark) → Inked o → marks_alone o ≡ Some ms → AllInked ms
alone None ms h e = absurd cc
alone (Some r) ms h e = let same : r.0 ≡ ms = cc in subst AllInked same h

pub rules_painted : RulesArePainted
rules_painted g set page ms e = alone (frame_marks g set most_nested page origin) ms (frame_inked g set most_nested page origin) e
