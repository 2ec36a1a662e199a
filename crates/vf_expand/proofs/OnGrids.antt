-- On a grid without drift a page's marks are those on any grid, each brought to the nearest pixels.
use Rattle.std.proofs.Common.{◌≡◌, ◌+◌, ◌*◌, ◌/◌, ◌<◌, ◌+ℤ◌, ℕ, zero, suc, ℤ, pos, negsuc, Bool, true, false, List, [], ◌∷◌, map, Option, Some, None, refl, sym, ap, ◌∙◌, arith}
use Rattle.std.specs.Prelude.{if◌then◌else◌, ◌&&◌, int_lt, option_map}
use Rattle.std.proofs.Math.Nat.{div-lt_iff_lt-mul}
use Rattle.std.proofs.lemmas.Int.{ints}
use Rattle.std.proofs.lemmas.List.{map-append}
use Rattle.dv_base.specs.Rounding.{Fraction, ceiling, rounded}
use Rattle.dvi_ops.specs.Command.{Command}
use Rattle.dvi_ops.specs.Command.Command.{Bop, Down, Eop, Fnt, FntDef, Nop, Pop, Post, PostPost, Pre, Push, Put, PutRule, Right, Set, SetRule, W, W0, X, X0, Xxx, Y, Y0, Z, Z0}
use Rattle.positions.specs.Drift.{advanced, down, fits, is_large_across, is_large_down, near, pixels_after, pixels_behind, right}
use Rattle.positions.specs.Mark.{Mark}
use Rattle.positions.specs.Mark.Mark.{OfGlyph, OfRule, OfSpecial}
use Rattle.positions.specs.Place.{Place, origin}
use Rattle.font_set.specs.Fonts as sets
use Rattle.font_set.specs.Fonts.{FontSet, state_at, width_at}
use Rattle.font_set.specs.Programs.{Named, Program, Scope, id_of, program_at, select}
use Rattle.font_set.specs.Tree.{Tree, tree_of}
use Rattle.font_set.specs.Tree.Tree.{End, Then, Group}
use Rattle.vf_expand.specs.Exact.{PagesAreExact, PagesOnGrids, UnitMark, UnitsStay, mark_on, marks_at, unit_mark}
use Rattle.vf_expand.specs.Grid.{Grid, State}
use Rattle.vf_expand.specs.Meaning.{Meaning, Showing}
use Rattle.vf_expand.specs.Marks.{Outcome, after, at_place, down_by, in_font, is_size, marks, marks_alone, marks_of, past_char, past_rule, prepend, put_char, restored, right_by, rule_at, rule_marks, set_char, step, where_sized}
use Rattle.vf_expand.specs.Pages.{amount_of, boxed, chars, first_there, frame_by, frame_marks, inner, most_nested, run_packet, sense, shown, shown_in, space_of, start_in, where_font}

-- ---- pixels that may not drift

near_exact : (t n : ℤ) → near (pos 0) t n ≡ t
unfolding near
near_exact t n = grind (arith, ints)

behind_exact : (f : Fraction) (e place pixels width : ℤ) → e ≡ pos 0 → pixels_behind f e place pixels width ≡ rounded f place
unfolding pixels_behind
behind_exact f e place pixels width k = ap (λ (d : ℤ). near d (rounded f place) (pixels +ℤ width)) k ∙ near_exact (rounded f place) (pixels +ℤ width)

after_exact : (f : Fraction) (e : ℤ) (large : Bool) (place pixels q : ℤ) → e ≡ pos 0 → pixels_after f e large place pixels q ≡ rounded f place
unfolding pixels_after
after_exact f e true place pixels q k = refl
after_exact f e false place pixels q k = behind_exact f e place pixels (rounded f q) k

module _ (g h : Grid) (exact : h.drift ≡ pos 0) where
  abbrev pub place_on : Place → Place
  place_on p = record p { hh = rounded h.across p.h; vv = rounded h.down p.v }

  abbrev pub state_on : State → State
  state_on s = record { place = place_on s.place; font = s.font }

  abbrev pub outcome_on : Outcome → Outcome
  outcome_on None = None
  outcome_on (Some r) = Some (map (mark_on h) r.0, state_on r.1)

  abbrev pub shown_on : Option (List Mark × ℤ) → Option (List Mark × ℤ)
  shown_on None = None
  shown_on (Some r) = Some (map (mark_on h) r.0, r.1)

  -- ---- moves

  if_on : (b : Bool) (x y : Place) → x ≡ place_on y → (if b then Some x else None) ≡ option_map place_on (if b then Some y else None)
  if_on true x y e = ap (λ (p : Place). Some p) e
  if_on false x y e = refl

  across_on : (p : Place) (to hh hh2 : ℤ) → hh ≡ rounded h.across to → record (place_on p) { h = to; hh = hh } ≡ place_on (record p { h = to; hh = hh2 })
  across_on p to hh hh2 e = ap (λ (z : ℤ). record (place_on p) { h = to; hh = z }) e

  down_on : (p : Place) (to vv vv2 : ℤ) → vv ≡ rounded h.down to → record (place_on p) { v = to; vv = vv } ≡ place_on (record p { v = to; vv = vv2 })
  down_on p to vv vv2 e = ap (λ (z : ℤ). record (place_on p) { v = to; vv = z }) e

  advanced_on : (p : Place) (width m n : ℤ) → advanced h.across h.drift (place_on p) width m ≡ option_map place_on (advanced g.across g.drift p width n)
  unfolding advanced
  advanced_on p width m n =
      let to : ℤ = p.h +ℤ width in
      let a : ℤ = pixels_behind h.across h.drift to (rounded h.across p.h) m in
      let b : ℤ = pixels_behind g.across g.drift to p.hh n in
      if_on (fits to) (record (place_on p) { h = to; hh = a }) (record p { h = to; hh = b }) (across_on p to a b (behind_exact h.across h.drift to (rounded h.across p.h) m exact))

  right_on : (space q : ℤ) (p : Place) → right_by h space q (place_on p) ≡ option_map place_on (right_by g space q p)
  unfolding right
  right_on space q p =
      let to : ℤ = p.h +ℤ q in
      let large : Bool = is_large_across space q in
      let a : ℤ = pixels_after h.across h.drift large to (rounded h.across p.h) q in
      let b : ℤ = pixels_after g.across g.drift large to p.hh q in
      if_on (fits to) (record (place_on p) { h = to; hh = a }) (record p { h = to; hh = b }) (across_on p to a b (after_exact h.across h.drift large to (rounded h.across p.h) q exact))

  fallen_on : (space q : ℤ) (p : Place) → down_by h space q (place_on p) ≡ option_map place_on (down_by g space q p)
  unfolding down
  fallen_on space q p =
      let to : ℤ = p.v +ℤ q in
      let large : Bool = is_large_down space q in
      let a : ℤ = pixels_after h.down h.drift large to (rounded h.down p.v) q in
      let b : ℤ = pixels_after g.down g.drift large to p.vv q in
      if_on (fits to) (record (place_on p) { v = to; vv = a }) (record p { v = to; vv = b }) (down_on p to a b (after_exact h.down h.drift large to (rounded h.down p.v) q exact))

  -- ---- outcomes

  placed_on : (ms : List Mark) (font : Option ℕ) (x y : Option Place) → x ≡ option_map place_on y → at_place (map (mark_on h) ms) font x ≡ outcome_on (at_place ms font y)
  placed_on ms font x y e = ap (at_place (map (mark_on h) ms) font) e ∙ by y
    where
      by : (o : Option Place) → at_place (map (mark_on h) ms) font (option_map place_on o) ≡ outcome_on (at_place ms font o)
      by None = refl
      by (Some p) = refl

  set_on : (s : State) (x y : Option (List Mark × ℤ)) → x ≡ shown_on y → set_char h (state_on s) x ≡ outcome_on (set_char g s y)
  set_on s x y e = ap (set_char h (state_on s)) e ∙ by y
    where
      by : (o : Option (List Mark × ℤ)) → set_char h (state_on s) (shown_on o) ≡ outcome_on (set_char g s o)
      by None = refl
      by (Some r) = placed_on r.0 s.font (past_char h r.1 (place_on s.place)) (past_char g r.1 s.place) (advanced_on s.place r.1 (rounded h.across r.1) (rounded g.across r.1))

  put_on : (s : State) (x y : Option (List Mark × ℤ)) → x ≡ shown_on y → put_char (state_on s) x ≡ outcome_on (put_char s y)
  put_on s x y e = ap (put_char (state_on s)) e ∙ by y
    where
      by : (o : Option (List Mark × ℤ)) → put_char (state_on s) (shown_on o) ≡ outcome_on (put_char s o)
      by None = refl
      by (Some r) = refl

  font_on : (s : State) (o : Option ℕ) → in_font (state_on s) o ≡ outcome_on (in_font s o)
  font_on s None = refl
  font_on s (Some id) = refl

  sized_on : (a b : ℤ) (x y : Outcome) → x ≡ outcome_on y → where_sized a b x ≡ outcome_on (where_sized a b y)
  sized_on a b x y e = by (is_size a && is_size b)
    where
      by : (t : Bool) → (if t then x else None) ≡ outcome_on (if t then y else None)
      by true = e
      by false = refl

  rule_on : (p : Place) (a b : ℤ) → rule_marks h (place_on p) a b ≡ map (mark_on h) (rule_marks g p a b)
  rule_on p a b = by (int_lt (pos 0) a && int_lt (pos 0) b)
    where
      by : (t : Bool) → (if t then rule_at h (place_on p) a b ∷ [] else []) ≡ map (mark_on h) (if t then rule_at g p a b ∷ [] else [])
      by true = refl
      by false = refl

  prepend_on : (ms : List Mark) (o : Outcome) → prepend (map (mark_on h) ms) (outcome_on o) ≡ outcome_on (prepend ms o)
  prepend_on ms None = refl
  prepend_on ms (Some r) = ap (λ (xs : List Mark). Some (xs, state_on r.1)) (sym (map-append (mark_on h) ms r.0))

  after_on : (o : Outcome) (f k : State → Outcome) → ((s : State) → k (state_on s) ≡ outcome_on (f s)) → after (outcome_on o) k ≡ outcome_on (after o f)
  after_on None f k w = refl
  after_on (Some r) f k w = ap (prepend (map (mark_on h) r.0)) (w r.1) ∙ prepend_on r.0 (f r.1)

  -- ---- commands

  module _ (set : FontSet) (scope : Scope) (cg ch : Showing) (w : (font : Option ℕ) (z : ℤ) (p : Place) → ch font z (place_on p) ≡ shown_on (cg font z p)) where
    abbrev mg : Meaning
    mg = sense g set scope cg

    abbrev mh : Meaning
    mh = sense h set scope ch

    abbrev unit : ℤ → ℤ
    unit q = amount_of scope.size q

    moved : (s : State) (q : ℤ) (p : Place) → at_place [] s.font (right_by h (space_of set s.font) q (place_on p)) ≡ outcome_on (at_place [] s.font (right_by g (space_of set s.font) q p))
    moved s q p = placed_on [] s.font (right_by h (space_of set s.font) q (place_on p)) (right_by g (space_of set s.font) q p) (right_on (space_of set s.font) q p)

    fallen : (s : State) (q : ℤ) (p : Place) → at_place [] s.font (down_by h (space_of set s.font) q (place_on p)) ≡ outcome_on (at_place [] s.font (down_by g (space_of set s.font) q p))
    fallen s q p = placed_on [] s.font (down_by h (space_of set s.font) q (place_on p)) (down_by g (space_of set s.font) q p) (fallen_on (space_of set s.font) q p)

    rule_set : (s : State) (a b : ℤ) → at_place (rule_marks h (place_on s.place) a b) s.font (past_rule h b (place_on s.place)) ≡ outcome_on (at_place (rule_marks g s.place a b) s.font (past_rule g b s.place))
    rule_set s a b =
        ap (λ (ms : List Mark). at_place ms s.font (past_rule h b (place_on s.place))) (rule_on s.place a b)
        ∙ placed_on (rule_marks g s.place a b) s.font (past_rule h b (place_on s.place)) (past_rule g b s.place) (advanced_on s.place b (ceiling h.across b) (ceiling g.across b))

    step_on : (c : Command) (s : State) → step mh c (state_on s) ≡ outcome_on (step mg c s)
    unfolding step
    step_on (Set z) s = set_on s (ch s.font z (place_on s.place)) (cg s.font z s.place) (w s.font z s.place)
    step_on (Put z) s = put_on s (ch s.font z (place_on s.place)) (cg s.font z s.place) (w s.font z s.place)
    step_on (Fnt k) s = font_on s (select set scope k)
    step_on (SetRule a b) s =
        sized_on (unit a) (unit b) (at_place (rule_marks h (place_on s.place) (unit a) (unit b)) s.font (past_rule h (unit b) (place_on s.place)))
        (at_place (rule_marks g s.place (unit a) (unit b)) s.font (past_rule g (unit b) s.place)) (rule_set s (unit a) (unit b))
    step_on (PutRule a b) s =
        sized_on (unit a) (unit b) (Some (rule_marks h (place_on s.place) (unit a) (unit b), state_on s)) (Some (rule_marks g s.place (unit a) (unit b), s))
        (ap (λ (ms : List Mark). Some (ms, state_on s)) (rule_on s.place (unit a) (unit b)))
    step_on Nop s = refl
    step_on (FntDef d) s = refl
    step_on (Xxx text) s = refl
    step_on (Right q) s = moved s (unit q) s.place
    step_on W0 s = moved s s.place.w s.place
    step_on (W q) s = moved s (unit q) (record s.place { w = unit q })
    step_on X0 s = moved s s.place.x s.place
    step_on (X q) s = moved s (unit q) (record s.place { x = unit q })
    step_on (Down q) s = fallen s (unit q) s.place
    step_on Y0 s = fallen s s.place.y s.place
    step_on (Y q) s = fallen s (unit q) (record s.place { y = unit q })
    step_on Z0 s = fallen s s.place.z s.place
    step_on (Z q) s = fallen s (unit q) (record s.place { z = unit q })
    step_on (Bop counts back) s = refl
    step_on Eop s = refl
    step_on Push s = refl
    step_on Pop s = refl
    step_on (Pre head) s = refl
    step_on (Post tail) s = refl
    step_on (PostPost back id) s = refl

    tree_on : (t : Tree) (s : State) → marks mh t (state_on s) ≡ outcome_on (marks mg t s)
    unfolding marks
    tree_on End s = refl
    tree_on (Then c t) s = ap (λ (o : Outcome). after o (marks mh t)) (step_on c.command s) ∙ after_on (step mg c.command s) (marks mg t) (marks mh t) (tree_on t)
    tree_on (Group p i q t) s =
        ap (λ (o : Outcome). after o (λ r. marks mh t (restored (place_on s.place) r))) (tree_on i s)
        ∙ after_on (marks mg i s) (λ r. marks mg t (restored s.place r)) (λ r. marks mh t (restored (place_on s.place) r)) (λ r. tree_on t (restored s.place r))

    trees_on : (o : Option Tree) (s : State) → marks_of mh o (state_on s) ≡ outcome_on (marks_of mg o s)
    trees_on None s = refl
    trees_on (Some t) s = tree_on t s

  -- ---- packets in one another

  abbrev Runs : (Program → Place → Outcome) → (Program → Place → Outcome) → Type 0
  Runs a b = (program : Program) (p : Place) → b program (place_on p) ≡ outcome_on (a program p)

  boxed_on : (width : ℤ) (x y : Outcome) → x ≡ outcome_on y → boxed width x ≡ shown_on (boxed width y)
  boxed_on width x y e = ap (boxed width) e ∙ by y
    where
      by : (o : Outcome) → boxed width (outcome_on o) ≡ shown_on (boxed width o)
      by None = refl
      by (Some r) = refl

  packet_on : (a b : Program → Place → Outcome) → Runs a b → (width : ℤ) (p : Place) (o : Option Program) → run_packet b width (place_on p) o ≡ shown_on (run_packet a width p o)
  packet_on a b w width p None = refl
  packet_on a b w width p (Some program) = boxed_on width (b program (inner (place_on p))) (a program (inner p)) (w program (inner p))

  shown_in_on : (a b : Program → Place → Outcome) → Runs a b → (id code : ℕ) (p : Place) (st : sets.State) (program : Option Program) (o : Option ℤ) → shown_in b h id code (place_on p) st program o ≡ shown_on (shown_in a g id code p st program o)
  shown_in_on a b w id code p st program None = refl
  shown_in_on a b w id code p sets.State.Known program (Some width) = refl
  shown_in_on a b w id code p (sets.State.Real tfm pk) program (Some width) = refl
  shown_in_on a b w id code p (sets.State.Virtual tfm vf) program (Some width) = packet_on a b w width p program

  char_on : (a b : Program → Place → Outcome) → Runs a b → (set : FontSet) (font : Option ℕ) (z : ℤ) (p : Place) → shown b h set font z (place_on p) ≡ shown_on (shown a g set font z p)
  char_on a b w set None z p = refl
  char_on a b w set (Some id) (negsuc n) p = refl
  char_on a b w set (Some id) (pos code) p = shown_in_on a b w id code p (state_at set id) (program_at set id code) (width_at set id code)

  there_on : (o : Option ℕ) (x y : Outcome) → x ≡ outcome_on y → where_font o x ≡ outcome_on (where_font o y)
  there_on None x y e = refl
  there_on (Some id) x y e = e

  first_on : (set : FontSet) (o : Option Named) (x y : Outcome) → x ≡ outcome_on y → first_there set o x ≡ outcome_on (first_there set o y)
  first_on set None x y e = e
  first_on set (Some f) x y e = there_on (id_of set f.key) x y e

  chars_on : (set : FontSet) (n : ℕ) (font : Option ℕ) (z : ℤ) (p : Place) → chars h set n font z (place_on p) ≡ shown_on (chars g set n font z p)
  unfolding chars
  chars_on set zero font z p = char_on (λ program q. None) (λ program q. None) (λ program q. refl) set font z p
  chars_on set (suc n) font z p =
      char_on (λ program q. first_there set program.first (frame_by g set (chars g set n) program q)) (λ program q. first_there set program.first (frame_by h set (chars h set n) program q))
      (λ program q. first_on set program.first (frame_by h set (chars h set n) program (place_on q)) (frame_by g set (chars g set n) program q)
      (trees_on set program.scope (chars g set n) (chars h set n) (chars_on set n) (tree_of program.commands) (start_in set program q)))
      set font z p

  pub frame_on : (set : FontSet) (n : ℕ) (program : Program) (p : Place) → frame_marks h set n program (place_on p) ≡ outcome_on (frame_marks g set n program p)
  frame_on set n program p = trees_on set program.scope (chars g set n) (chars h set n) (chars_on set n) (tree_of program.commands) (start_in set program p)

  alone_on : (o : Outcome) → marks_alone (outcome_on o) ≡ option_map (map (mark_on h)) (marks_alone o)
  alone_on None = refl
  alone_on (Some r) = refl

-- ---- pages

half_of_none : (t b : ℕ) → (2 * 0 * t + b) / (2 * b) ≡ 0
half_of_none t zero = let none : 2 * 0 * t + 0 ≡ 0 = omega arith in ap (λ (n : ℕ). n / (2 * 0)) none
half_of_none t (suc b) =
    let even : 0 < 2 * suc b = omega arith in
    let few : 2 * 0 * t + suc b < 1 * (2 * suc b) = omega arith in
    let small : (2 * 0 * t + suc b) / (2 * suc b) < 1 = (div-lt_iff_lt-mul even).1 few in
    omega (arith, small)

zero_rounded : (f : Fraction) → rounded f (pos 0) ≡ pos 0
unfolding rounded
zero_rounded f = ap pos (half_of_none f.top f.bottom)

origin_on : (g h : Grid) (exact : h.drift ≡ pos 0) → origin ≡ place_on g h exact origin
origin_on g h exact = λ i. record origin { hh = sym (zero_rounded h.across) i; vv = sym (zero_rounded h.down) i }

pub on_grids : PagesOnGrids
on_grids g h set page exact =
    ap (λ (p : Place). marks_alone (frame_marks h set most_nested page p)) (origin_on g h exact)
    ∙ ap marks_alone (frame_on g h exact set most_nested page origin) ∙ alone_on g h exact (frame_marks g set most_nested page origin)

pub pages_exact : PagesAreExact
pages_exact g set page exact = sym (on_grids g g set page exact)

unit_on : (h : Grid) (m : Mark) → unit_mark (mark_on h m) ≡ unit_mark m
unit_on h (OfGlyph m) = refl
unit_on h (OfRule m) = refl
unit_on h (OfSpecial m) = refl

units_on : (h : Grid) (ms : List Mark) → map unit_mark (map (mark_on h) ms) ≡ map unit_mark ms
units_on h [] = refl
units_on h (m ∷ ms) = λ i. unit_on h m i ∷ units_on h ms i

all_units_on : (h : Grid) (o : Option (List Mark)) → option_map (map unit_mark) (option_map (map (mark_on h)) o) ≡ option_map (map unit_mark) o
all_units_on h None = refl
all_units_on h (Some ms) = ap (λ (us : List UnitMark). Some us) (units_on h ms)

pub units_stay : UnitsStay
units_stay g h set page =
    let flat : Grid = record h { drift = pos 0 } in
    sym (all_units_on flat (marks_at g set page)) ∙ ap (option_map (map unit_mark)) (sym (on_grids g flat set page refl) ∙ on_grids h flat set page refl)
    ∙ all_units_on flat (marks_at h set page)
