-- The marks of one page with the fonts of two sets that have them from the same files: they differ in the numbers of fonts alone.
use Rattle.std.proofs.Common.{◌≡◌, ℕ, zero, suc, ℤ, pos, Bool, true, false, List, [], ◌∷◌, ◌++◌, Option, Some, None, refl, sym, ap, subst, ◌∙◌}
use Rattle.std.specs.Prelude.{if◌then◌else◌, ◌&&◌, int_lt}
use Rattle.dv_base.specs.Shelf.{Contents}
use Rattle.dvi_ops.specs.Command.{Command, Definition}
use Rattle.dvi_ops.specs.Command.Command.{Bop, Down, Eop, Fnt, FntDef, Nop, Pop, Post, PostPost, Pre, Push, Put, PutRule, Right, Set, SetRule, W, W0, X, X0, Xxx, Y, Y0, Z, Z0}
use Rattle.dvi_ops.specs.Placed.{Placed}
use Rattle.positions.specs.Mark.{Mark}
use Rattle.positions.specs.Place.{Place, origin}
use Rattle.font_set.specs.Key.{Key}
use Rattle.font_set.specs.Fonts as sets
use Rattle.font_set.specs.Fonts.{FontSet, place_of, state_at, width_at, IsLoaded}
use Rattle.font_set.specs.Alike.{Alike, OneFontOf, Twin}
use Rattle.font_set.specs.Programs.{Named, Scope, Program, id_of, key_in, key_of_first, page_program, program_at, select}
use Rattle.font_set.specs.Frames.{selected}
use Rattle.font_set.proofs.Alike.{program_twin, state_twin, width_twin}
use Rattle.vf_expand.specs.Alike.{MarksAlike}
use Rattle.vf_expand.specs.Grid.{Grid, State}
use Rattle.vf_expand.specs.Meaning.{Showing}
use Rattle.vf_expand.specs.Marks.{Outcome, at_place, down_by, in_font, is_size, past_char, past_rule, prepend, put_char, restored, right_by, rule_at, rule_marks, set_char, special_at, step, where_sized}
use Rattle.vf_expand.specs.Turn.{Turn, of_step, turned}
use Rattle.vf_expand.specs.Pages.{amount_of, boxed, chars, first_there, frame_marks, glyph_at, glyph_record, inner, shown, shown_in, space_of, start_in, where_font}
use Rattle.vf_expand.specs.Page.{page_marks}
use Rattle.vf_expand.proofs.Alike.{Known, Same, Widths, at_key, char_none, char_wide, inj, ma, mb, start_same, turn_at, widths}
use Rattle.vf_expand.proofs.Walk.{go_on, walk, walk_page, walk_turn}

-- ---- marks

pub both_alike : (a b : FontSet) (ms ns ps qs : List Mark) → MarksAlike a b ms ns → MarksAlike a b ps qs → MarksAlike a b (ms ++ ps) (ns ++ qs)
both_alike a b [] [] ps qs h k = k
both_alike a b [] (n ∷ ns) ps qs h k = absurd h
both_alike a b (m ∷ ms) [] ps qs h k = absurd h
both_alike a b (m ∷ ms) (n ∷ ns) ps qs h k = (h.0, both_alike a b ms ns ps qs h.1 k)

rule_alike : (a b : FontSet) (g : Grid) (p : Place) (x y : ℤ) → MarksAlike a b (rule_marks g p x y) (rule_marks g p x y)
rule_alike a b g p x y = by (int_lt (pos 0) x && int_lt (pos 0) y)
  where
    by : (t : Bool) → MarksAlike a b (if t then rule_at g p x y ∷ [] else []) (if t then rule_at g p x y ∷ [] else [])
    by true = (refl, tt)
    by false = tt

-- ---- one command

module _ (g : Grid) (a b : FontSet) (scope : Scope) (ca cb : Showing) where
  -- characters have alike marks in both sets
  abbrev pub Shows : Type 0
  Shows = (sel : Option Key) (z : ℤ) (p : Place) (q r : List Mark × ℤ) → Known a b sel → ca (id_of a sel) z p ≡ Some q → cb (id_of b sel) z p ≡ Some r → MarksAlike a b q.0 r.0

  abbrev AlikeAt : List Mark × State → List Mark × State → Type 0
  AlikeAt u v = MarksAlike a b u.0 v.0

  same_marks : (ms ns : List Mark) (s t : State) (u v : List Mark × State) → MarksAlike a b ms ns → Some (ms, s) ≡ Some u → Some (ns, t) ≡ Some v → AlikeAt u v
  same_marks ms ns s t u v h e f =
      let x : List Mark × State = (ms, s) in
      let y : List Mark × State = (ns, t) in
      subst (λ (w : List Mark × State). AlikeAt w v) (inj x u e) (subst (λ (w : List Mark × State). AlikeAt x w) (inj y v f) h)

  placed_marks : (ms ns : List Mark) (fa fb : Option ℕ) (o q : Option Place) (u v : List Mark × State) → MarksAlike a b ms ns → at_place ms fa o ≡ Some u → at_place ns fb q ≡ Some v → AlikeAt u v
  placed_marks ms ns fa fb None q u v h e f = absurd cc
  placed_marks ms ns fa fb (Some x) None u v h e f = absurd cc
  placed_marks ms ns fa fb (Some x) (Some y) u v h e f = same_marks ms ns (record { place = x; font = fa }) (record { place = y; font = fb }) u v h e f

  sized_some : (x y : ℤ) (o : Outcome) (u : List Mark × State) → where_sized x y o ≡ Some u → o ≡ Some u
  sized_some x y o u e = by (is_size x) (is_size y) e
    where
      by : (m n : Bool) → (if m && n then o else None) ≡ Some u → o ≡ Some u
      by true true k = k
      by true false k = absurd cc
      by false n k = absurd cc

  module _ (p : Place) (sel : Option Key) (known : Known a b sel) where
    abbrev s : State
    s = at_key a p sel

    abbrev t : State
    t = at_key b p sel

    set_marks : (oa ob : Option (List Mark × ℤ)) (u v : List Mark × State) → ((q r : List Mark × ℤ) → oa ≡ Some q → ob ≡ Some r → MarksAlike a b q.0 r.0) → set_char g s oa ≡ Some u → set_char g t ob ≡ Some v → AlikeAt u v
    set_marks None ob u v f h k = absurd cc
    set_marks (Some q) None u v f h k = absurd cc
    set_marks (Some q) (Some r) u v f h k = placed_marks q.0 r.0 (id_of a sel) (id_of b sel) (past_char g q.1 p) (past_char g r.1 p) u v (f q r refl refl) h k

    put_marks : (oa ob : Option (List Mark × ℤ)) (u v : List Mark × State) → ((q r : List Mark × ℤ) → oa ≡ Some q → ob ≡ Some r → MarksAlike a b q.0 r.0) → put_char s oa ≡ Some u → put_char t ob ≡ Some v → AlikeAt u v
    put_marks None ob u v f h k = absurd cc
    put_marks (Some q) None u v f h k = absurd cc
    put_marks (Some q) (Some r) u v f h k = same_marks q.0 r.0 s t u v (f q r refl refl) h k

    font_marks : (x y : Option ℕ) (u v : List Mark × State) → in_font s x ≡ Some u → in_font t y ≡ Some v → AlikeAt u v
    font_marks None y u v h k = absurd cc
    font_marks (Some i) None u v h k = absurd cc
    font_marks (Some i) (Some j) u v h k = same_marks [] [] (record { place = p; font = Some i }) (record { place = p; font = Some j }) u v tt h k

    moved_marks : (x y : Option Place) (u v : List Mark × State) → at_place [] (id_of a sel) x ≡ Some u → at_place [] (id_of b sel) y ≡ Some v → AlikeAt u v
    moved_marks x y u v h k = placed_marks [] [] (id_of a sel) (id_of b sel) x y u v tt h k

    abbrev unit : ℤ → ℤ
    unit q = amount_of scope.size q

    abbrev across : ℤ → Place → FontSet → Option Place
    across q x set = right_by g (space_of set (id_of set sel)) q x

    abbrev down : ℤ → Place → FontSet → Option Place
    down q x set = down_by g (space_of set (id_of set sel)) q x

    set_rule : (x y : ℤ) (u v : List Mark × State) → where_sized x y (at_place (rule_marks g p x y) (id_of a sel) (past_rule g y p)) ≡ Some u → where_sized x y (at_place (rule_marks g p x y) (id_of b sel) (past_rule g y p)) ≡ Some v → AlikeAt u v
    set_rule x y u v h k =
        placed_marks (rule_marks g p x y) (rule_marks g p x y) (id_of a sel) (id_of b sel) (past_rule g y p) (past_rule g y p) u v (rule_alike a b g p x y)
        (sized_some x y (at_place (rule_marks g p x y) (id_of a sel) (past_rule g y p)) u h)
        (sized_some x y (at_place (rule_marks g p x y) (id_of b sel) (past_rule g y p)) v k)

    put_rule : (x y : ℤ) (u v : List Mark × State) → where_sized x y (Some (rule_marks g p x y, s)) ≡ Some u → where_sized x y (Some (rule_marks g p x y, t)) ≡ Some v → AlikeAt u v
    put_rule x y u v h k = same_marks (rule_marks g p x y) (rule_marks g p x y) s t u v (rule_alike a b g p x y) (sized_some x y (Some (rule_marks g p x y, s)) u h) (sized_some x y (Some (rule_marks g p x y, t)) v k)

    step_marks : Shows → (c : Command) (u v : List Mark × State) → step (ma g a b scope ca cb) c s ≡ Some u → step (mb g a b scope ca cb) c t ≡ Some v → AlikeAt u v
    unfolding step select
    step_marks w (Set z) u v h k = set_marks (ca (id_of a sel) z p) (cb (id_of b sel) z p) u v (λ q r e f. w sel z p q r known e f) h k
    step_marks w (Put z) u v h k = put_marks (ca (id_of a sel) z p) (cb (id_of b sel) z p) u v (λ q r e f. w sel z p q r known e f) h k
    step_marks w (Fnt n) u v h k = font_marks (id_of a (key_in scope.fonts n)) (id_of b (key_in scope.fonts n)) u v h k
    step_marks w (SetRule x y) u v h k = set_rule (unit x) (unit y) u v h k
    step_marks w (PutRule x y) u v h k = put_rule (unit x) (unit y) u v h k
    step_marks w Nop u v h k = same_marks [] [] s t u v tt h k
    step_marks w (FntDef d) u v h k = same_marks [] [] s t u v tt h k
    step_marks w (Xxx text) u v h k = same_marks (special_at p text ∷ []) (special_at p text ∷ []) s t u v (refl, tt) h k
    step_marks w (Right q) u v h k = moved_marks (across (unit q) p a) (across (unit q) p b) u v h k
    step_marks w W0 u v h k = moved_marks (across p.w p a) (across p.w p b) u v h k
    step_marks w (W q) u v h k = moved_marks (across (unit q) (record p { w = unit q }) a) (across (unit q) (record p { w = unit q }) b) u v h k
    step_marks w X0 u v h k = moved_marks (across p.x p a) (across p.x p b) u v h k
    step_marks w (X q) u v h k = moved_marks (across (unit q) (record p { x = unit q }) a) (across (unit q) (record p { x = unit q }) b) u v h k
    step_marks w (Down q) u v h k = moved_marks (down (unit q) p a) (down (unit q) p b) u v h k
    step_marks w Y0 u v h k = moved_marks (down p.y p a) (down p.y p b) u v h k
    step_marks w (Y q) u v h k = moved_marks (down (unit q) (record p { y = unit q }) a) (down (unit q) (record p { y = unit q }) b) u v h k
    step_marks w Z0 u v h k = moved_marks (down p.z p a) (down p.z p b) u v h k
    step_marks w (Z q) u v h k = moved_marks (down (unit q) (record p { z = unit q }) a) (down (unit q) (record p { z = unit q }) b) u v h k
    step_marks w (Bop counts back) u v h k = absurd cc
    step_marks w Eop u v h k = absurd cc
    step_marks w Push u v h k = absurd cc
    step_marks w Pop u v h k = absurd cc
    step_marks w (Pre head) u v h k = absurd cc
    step_marks w (Post tail) u v h k = absurd cc
    step_marks w (PostPost back id) u v h k = absurd cc

    stepped_marks : (os : List Place) (x y : Outcome) (u v : Turn) → ((m n : List Mark × State) → x ≡ Some m → y ≡ Some n → AlikeAt m n) → of_step os x ≡ Some u → of_step os y ≡ Some v → MarksAlike a b u.marks v.marks
    stepped_marks os None y u v f h k = absurd cc
    stepped_marks os (Some m) None u v f h k = absurd cc
    stepped_marks os (Some m) (Some n) u v f h k =
        let x : Turn = record { marks = m.0; pushes = os; state = m.1 } in
        let y : Turn = record { marks = n.0; pushes = os; state = n.1 } in
        subst (λ (w : Turn). MarksAlike a b w.marks v.marks) (inj x u h) (subst (λ (w : Turn). MarksAlike a b m.0 w.marks) (inj y v k) (f m n refl refl))

    bare_marks : (x y u v : Turn) → x.marks ≡ [] → y.marks ≡ [] → Some x ≡ Some u → Some y ≡ Some v → MarksAlike a b u.marks v.marks
    bare_marks x y u v e f h k =
        let l : u.marks ≡ [] = ap (λ (w : Turn). w.marks) (sym (inj x u h)) ∙ e in
        let r : v.marks ≡ [] = ap (λ (w : Turn). w.marks) (sym (inj y v k)) ∙ f in
        subst (λ (ms : List Mark). MarksAlike a b ms v.marks) (sym l) (subst (λ (ms : List Mark). MarksAlike a b [] ms) (sym r) tt)

    popped_marks : (os : List Place) (u v : Turn) → turned (ma g a b scope ca cb) Pop os s ≡ Some u → turned (mb g a b scope ca cb) Pop os t ≡ Some v → MarksAlike a b u.marks v.marks
    popped_marks [] u v h k = absurd cc
    popped_marks (o ∷ os) u v h k = bare_marks (record { marks = []; pushes = os; state = restored o s }) (record { marks = []; pushes = os; state = restored o t }) u v refl refl h k

    turned_marks : Shows → (c : Command) (os : List Place) (u v : Turn) → turned (ma g a b scope ca cb) c os s ≡ Some u → turned (mb g a b scope ca cb) c os t ≡ Some v → MarksAlike a b u.marks v.marks
    turned_marks w Push os u v h k = bare_marks (record { marks = []; pushes = p ∷ os; state = s }) (record { marks = []; pushes = p ∷ os; state = t }) u v refl refl h k
    turned_marks w Pop os u v h k = popped_marks os u v h k
    turned_marks w c os u v h k = stepped_marks os (step (ma g a b scope ca cb) c s) (step (mb g a b scope ca cb) c t) u v (λ m n. step_marks w c m n) h k

  -- ---- commands one after another

  turned_at : Shows → (sel : Option Key) (x y : State) → Same a b sel x y → (c : Command) (os : List Place) (u v : Turn) → turned (ma g a b scope ca cb) c os x ≡ Some u → turned (mb g a b scope ca cb) c os y ≡ Some v → MarksAlike a b u.marks v.marks
  turned_at w sel x y h c os u v e f =
      turned_marks h.place sel h.known w c os u v (ap (turned (ma g a b scope ca cb) c os) (sym h.left) ∙ e) (ap (turned (mb g a b scope ca cb) c os) (sym h.right) ∙ f)

  -- the walk that follows a turn
  behind : (ms : List Mark) (o : Outcome) (r : List Mark × State) → prepend ms o ≡ Some r → (q : List Mark × State) × (o ≡ Some q) × (r.0 ≡ ms ++ q.0)
  behind ms None r e = absurd cc
  behind ms (Some q) r e =
      let x : List Mark × State = (ms ++ q.0, q.1) in
      (q, refl, ap (λ (w : List Mark × State). w.0) (sym (inj x r e)))

  end_marks : (os : List Place) (x y : State) (q r : List Mark × State) → walk (ma g a b scope ca cb) [] os x ≡ Some q → walk (mb g a b scope ca cb) [] os y ≡ Some r → AlikeAt q r
  unfolding walk
  end_marks [] x y q r e f = same_marks [] [] x y q r tt e f
  end_marks (o ∷ os) x y q r e f = absurd cc

  walk_marks : Widths g a b scope ca cb → Shows → (cs : List Placed) (sel : Option Key) (os : List Place) (x y : State) (q r : List Mark × State) → Same a b sel x y → walk (ma g a b scope ca cb) cs os x ≡ Some q → walk (mb g a b scope ca cb) cs os y ≡ Some r → AlikeAt q r
  walk_marks wide w [] sel os x y q r h e f = end_marks os x y q r e f
  walk_marks wide w (c ∷ cs) sel os x y q r h e f =
      by (λ sel os x y q r h e f. walk_marks wide w cs sel os x y q r h e f) (turned (ma g a b scope ca cb) c.command os x) (turned (mb g a b scope ca cb) c.command os y) refl refl
      (sym (walk_turn (ma g a b scope ca cb) c cs os x) ∙ e) (sym (walk_turn (mb g a b scope ca cb) c cs os y) ∙ f)
    where
      by : ((sel : Option Key) (os : List Place) (x y : State) (q r : List Mark × State) → Same a b sel x y → walk (ma g a b scope ca cb) cs os x ≡ Some q → walk (mb g a b scope ca cb) cs os y ≡ Some r → AlikeAt q r) → (m n : Option Turn)
          → turned (ma g a b scope ca cb) c.command os x ≡ m → turned (mb g a b scope ca cb) c.command os y ≡ n → go_on m (walk (ma g a b scope ca cb) cs) ≡ Some q → go_on n (walk (mb g a b scope ca cb) cs) ≡ Some r → AlikeAt q r
      by further None n i j k l = absurd cc
      by further (Some u) None i j k l = absurd cc
      by further (Some u) (Some v) i j k l =
          let first = turned_at w sel x y h c.command os u v i j in
          let next = turn_at g a b scope ca cb wide sel x y h c.command os u v i j in
          let m = behind u.marks (walk (ma g a b scope ca cb) cs u.pushes u.state) q k in
          let n = behind v.marks (walk (mb g a b scope ca cb) cs v.pushes v.state) r l in
          let there = ap (λ (z : List Place). walk (mb g a b scope ca cb) cs z v.state) next.0 ∙ n.1 in
          let rest = further (selected scope sel c.command) u.pushes u.state v.state m.0 n.0 next.1 m.1 there in
          let all = both_alike a b u.marks v.marks (let z = m.0 in z.0) (let z = n.0 in z.0) first rest in
          subst (λ (ms : List Mark). MarksAlike a b ms r.0) (sym m.2) (subst (λ (ms : List Mark). MarksAlike a b (u.marks ++ (let z = m.0 in z.0)) ms) (sym n.2) all)

-- ---- frames

first_font : (set : FontSet) (o : Option Key) (m : Outcome) (r : List Mark × State) → where_font (id_of set o) m ≡ Some r → (key : Key) × (i : ℕ) × (o ≡ Some key) × (place_of set.fonts key ≡ Some i) × (m ≡ Some r)
first_font set None m r e = absurd cc
first_font set (Some key) m r e = by (place_of set.fonts key) refl e
  where
    by : (x : Option ℕ) → place_of set.fonts key ≡ x → where_font x m ≡ Some r → (k : Key) × (i : ℕ) × (Some key ≡ Some k) × (place_of set.fonts k ≡ Some i) × (m ≡ Some r)
    by None q k = absurd cc
    by (Some i) q k = (key, i, refl, q, k)

-- frames whose first font is there in both sets
known_first : (a b : FontSet) (first : Option Named) (m n : Outcome) (q r : List Mark × State) → first_there a first m ≡ Some q → first_there b first n ≡ Some r → Known a b (key_of_first first) × (m ≡ Some q) × (n ≡ Some r)
known_first a b None m n q r e f = (tt, e, f)
known_first a b (Some x) m n q r e f =
    let i = first_font a x.key m q e in
    let j = first_font b x.key n r f in
    let same : i.0 ≡ j.0 = inj i.0 j.0 (sym i.2 ∙ j.2) in
    let left : place_of a.fonts j.0 ≡ Some i.1 = ap (place_of a.fonts) (sym same) ∙ i.3 in
    (subst (Known a b) (sym j.2) (i.1, j.1, record { left = left; right = j.3 }), i.4, j.4)

box_parts : (w : ℤ) (o : Outcome) (q : List Mark × ℤ) → boxed w o ≡ Some q → (r : List Mark × State) × (o ≡ Some r) × (q.0 ≡ r.0)
box_parts w None q e = absurd cc
box_parts w (Some r) q e = let x : List Mark × ℤ = (r.0, w) in (r, refl, ap (λ (y : List Mark × ℤ). y.0) (sym (inj x q e)))

module _ (one : OneFontOf) (held : Contents) (a b : FontSet) (alike : Alike held a b) (g : Grid) where
  abbrev ShowsAt : ℕ → Type 0
  ShowsAt n = (sel : Option Key) (z : ℤ) (p : Place) (q r : List Mark × ℤ) → Known a b sel → chars g a n (id_of a sel) z p ≡ Some q → chars g b n (id_of b sel) z p ≡ Some r → MarksAlike a b q.0 r.0

  frame_alike : (n : ℕ) → ShowsAt n → (program : Program) (p : Place) (q r : List Mark × State) → Known a b (key_of_first program.first) → frame_marks g a n program p ≡ Some q → frame_marks g b n program p ≡ Some r → MarksAlike a b q.0 r.0
  frame_alike n shows program p q r known e f =
      let scope = program.scope in
      let left = walk_page (ma g a b scope (chars g a n) (chars g b n)) program.commands (start_in a program p) ∙ e in
      let right = walk_page (mb g a b scope (chars g a n) (chars g b n)) program.commands (start_in b program p) ∙ f in
      walk_marks g a b scope (chars g a n) (chars g b n) (widths one held a b alike g n scope) shows program.commands (key_of_first program.first) [] (start_in a program p) (start_in b program p) q r (start_same a b program p known) left right

  glyph_alike : (key : Key) (i j code : ℕ) (p : Place) (v w : ℤ) → Twin a b key i j → state_at a i ≡ state_at b j → v ≡ w → MarksAlike a b (glyph_at g i code p v ∷ []) (glyph_at g j code p w ∷ [])
  glyph_alike key i j code p v w t s e = ((key, t, s, ap (glyph_record g j code p) (sym e)), tt)

  -- a character whose packet, where it has one, has alike marks
  shown_alike : (left right : Program → Place → Outcome) (key : Key) (i j code : ℕ) (p : Place) (s : sets.State) (oa ob : Option Program) (wa wb : Option ℤ) (q r : List Mark × ℤ) → Twin a b key i j → state_at a i ≡ state_at b j → oa ≡ ob → wa ≡ wb
      → ((program : Program) (m n : List Mark × State) → left program (inner p) ≡ Some m → right program (inner p) ≡ Some n → MarksAlike a b m.0 n.0) → shown_in left g i code p s oa wa ≡ Some q → shown_in right g j code p s ob wb ≡ Some r → MarksAlike a b q.0 r.0
  shown_alike left right key i j code p s oa ob None wb q r t same e f law h k = absurd cc
  shown_alike left right key i j code p s oa ob (Some v) None q r t same e f law h k = absurd cc
  shown_alike left right key i j code p sets.State.Known oa ob (Some v) (Some w) q r t same e f law h k = absurd cc
  shown_alike left right key i j code p (sets.State.Real tfm pk) oa ob (Some v) (Some w) q r t same e f law h k =
      let x : List Mark × ℤ = (glyph_at g i code p v ∷ [], v) in
      let y : List Mark × ℤ = (glyph_at g j code p w ∷ [], w) in
      subst (λ (z : List Mark × ℤ). MarksAlike a b z.0 r.0) (inj x q h) (subst (λ (z : List Mark × ℤ). MarksAlike a b (glyph_at g i code p v ∷ []) z.0) (inj y r k) (glyph_alike key i j code p v w t same (inj v w f)))
  shown_alike left right key i j code p (sets.State.Virtual tfm vf) None ob (Some v) (Some w) q r t same e f law h k = absurd cc
  shown_alike left right key i j code p (sets.State.Virtual tfm vf) (Some x) None (Some v) (Some w) q r t same e f law h k = absurd cc
  shown_alike left right key i j code p (sets.State.Virtual tfm vf) (Some x) (Some y) (Some v) (Some w) q r t same e f law h k =
      let m = box_parts v (left x (inner p)) q h in
      let n = box_parts w (right y (inner p)) r k in
      let there = ap (λ (z : Program). right z (inner p)) (inj x y e) ∙ n.1 in
      subst (λ (ms : List Mark). MarksAlike a b ms r.0) (sym m.2) (subst (λ (ms : List Mark). MarksAlike a b (let z = m.0 in z.0) ms) (sym n.2) (law x m.0 n.0 m.1 there))

  -- One character of one font in both sets.
  pub record Pair (key : Key) (i j : ℕ) (z : ℤ) : Type 0 where
    pub code : ℕ
    pub same : z ≡ pos code
    pub twin : Twin a b key i j
    pub state : state_at a i ≡ state_at b j
    pub program : program_at a i code ≡ program_at b j code
    pub wide : width_at a i code ≡ width_at b j code

  pair : (n : ℕ) (key : Key) (i j : ℕ) (z : ℤ) (p : Place) (q r : List Mark × ℤ) → Twin a b key i j → chars g a n (Some i) z p ≡ Some q → chars g b n (Some j) z p ≡ Some r → Pair key i j z
  pair n key i j z p q r t e f =
      let x = char_wide g a n i z p q e in
      let y = char_wide g b n j z p r f in
      record {
        code = x.code;
        same = x.same;
        twin = t;
        state = state_twin one held a b alike key i j t x.loaded y.loaded;
        program = program_twin one held a b alike key i j x.code t x.loaded y.loaded;
        wide = width_twin one held a b alike key i j x.code t x.loaded y.loaded;
      }

  -- the last set of fonts has the character as the first one has it
  by_pair : (left right : Program → Place → Outcome) (key : Key) (i j : ℕ) (z : ℤ) (p : Place) (q r : List Mark × ℤ) (x : Pair key i j z) → ((program : Program) (m n : List Mark × State) → left program (inner p) ≡ Some m → right program (inner p) ≡ Some n → MarksAlike a b m.0 n.0)
      → shown left g a (Some i) z p ≡ Some q → shown right g b (Some j) z p ≡ Some r → MarksAlike a b q.0 r.0
  by_pair left right key i j z p q r x law e f =
      let c = x.code in
      let here : shown left g a (Some i) (pos c) p ≡ Some q = subst (λ (y : ℤ). shown left g a (Some i) y p ≡ Some q) x.same e in
      let there : shown right g b (Some j) (pos c) p ≡ Some r = subst (λ (y : ℤ). shown right g b (Some j) y p ≡ Some r) x.same f in
      shown_alike left right key i j c p (state_at a i) (program_at a i c) (program_at b j c) (width_at a i c) (width_at b j c) q r x.twin x.state x.program x.wide law here
      (subst (λ (s : sets.State). shown_in right g j c p s (program_at b j c) (width_at b j c) ≡ Some r) (sym x.state) there)

  shows : (n : ℕ) → ShowsAt n
  unfolding chars
  shows n None z p q r known e f = absurd (char_none g a n z p q e)
  shows zero (Some key) z p q r (i, j, t) e f =
      let here : chars g a 0 (Some i) z p ≡ Some q = subst (λ (o : Option ℕ). chars g a 0 o z p ≡ Some q) t.left e in
      let there : chars g b 0 (Some j) z p ≡ Some r = subst (λ (o : Option ℕ). chars g b 0 o z p ≡ Some r) t.right f in
      by_pair (λ x y. None) (λ x y. None) key i j z p q r (pair 0 key i j z p q r t here there) (λ program m n k l. absurd cc) here there
  shows (suc n) (Some key) z p q r (i, j, t) e f =
      let here : chars g a (suc n) (Some i) z p ≡ Some q = subst (λ (o : Option ℕ). chars g a (suc n) o z p ≡ Some q) t.left e in
      let there : chars g b (suc n) (Some j) z p ≡ Some r = subst (λ (o : Option ℕ). chars g b (suc n) o z p ≡ Some r) t.right f in
      by_pair (λ x y. first_there a x.first (frame_marks g a n x y)) (λ x y. first_there b x.first (frame_marks g b n x y)) key i j z p q r (pair (suc n) key i j z p q r t here there)
      (λ program m o k l.
      let known = known_first a b program.first (frame_marks g a n program (inner p)) (frame_marks g b n program (inner p)) m o k l in
      frame_alike n (shows n) program (inner p) m o known.0 known.1 known.2) here there

  -- the marks of a page differ in the numbers of fonts alone
  pub marks_alike : (ds : List Definition) (cs : List Placed) (q r : List Mark × State) → page_marks g a ds cs ≡ Some q → page_marks g b ds cs ≡ Some r → MarksAlike a b q.0 r.0
  marks_alike ds cs q r e f = frame_alike 16 (shows 16) (page_program ds cs) origin q r tt e f
