-- Two sets that have their fonts from the same files: a page that has no fault with the one has none with the other.
use Rattle.std.proofs.Common.{◌≡◌, ◌<◌, ◌+◌, ◌⊎◌, inl, inr, ℕ, zero, suc, ℤ, pos, negsuc, ◌+ℤ◌, ◌/◌, Bool, true, false, List, [], ◌∷◌, ◌++◌, length, Option, Some, None, refl, sym, ap, subst, ◌∙◌, arith}
use Rattle.std.specs.Prelude.{if◌then◌else◌, ◌&&◌}
use Rattle.std.proofs.lemmas.List.{append-nil}
use Rattle.dv_base.specs.Shelf.{Contents}
use Rattle.dv_base.specs.declared.font_id.Spot.{Spot}
use Rattle.dv_base.specs.declared.font_id.Spot.TheVariants as spot
use Rattle.dvi_ops.specs.Command.{Command, Definition}
use Rattle.dvi_ops.specs.Command.Command.{Bop, Down, Eop, Fnt, FntDef, Nop, Pop, Post, PostPost, Pre, Push, Put, PutRule, Right, Set, SetRule, W, W0, X, X0, Xxx, Y, Y0, Z, Z0}
use Rattle.dvi_ops.specs.Placed.{Placed}
use Rattle.dvi_doc.specs.Document.{PageOf}
use Rattle.positions.specs.Mark.{Mark}
use Rattle.positions.specs.Place.{Place, origin}
use Rattle.font_set.specs.Key.{Key}
use Rattle.font_set.specs.Fonts as sets
use Rattle.font_set.specs.Fonts.{FontSet, place_of, size_at, state_at, width_at, IsLoaded, IsVirtual}
use Rattle.font_set.specs.Alike.{Alike, OneFontOf, Twin}
use Rattle.font_set.specs.Programs.{Named, Scope, Program, first_font, id_of, key_in, key_of_first, page_program, program_at, select}
use Rattle.font_set.specs.Frames.{FontAct, acts_from, acts_of, acts_of_command, acts_with_first, char_act, select_act, selected}
use Rattle.font_set.specs.LoadFaults.{selected_after}
use Rattle.font_set.specs.Covers.{Covers, IsGood, IsKnownAt, IsShown}
use Rattle.font_set.specs.Count.{count, count_by, count_of_packet, font_behind, runs, weight}
use Rattle.font_set.proofs.Alike.{program_twin, size_twin, state_twin, width_twin}
use Rattle.font_set.proofs.Growing.{shown_loaded}
use Rattle.font_set.proofs.Later.{acts_split, behind_first, packet_loaded}
use Rattle.vf_expand.specs.Alike.{IsOutside}
use Rattle.vf_expand.specs.Grid.{Grid, State}
use Rattle.vf_expand.specs.Meaning.{Meaning, Showing}
use Rattle.vf_expand.specs.Marks.{Outcome, at_place, down_by, in_font, is_size, past_char, prepend, past_rule, put_char, restored, right_by, rule_marks, set_char, special_at, step, where_sized}
use Rattle.vf_expand.specs.Turn.{Standing, Turn, left_behind, left_by, left_from, of_step, turned}
use Rattle.vf_expand.specs.Pages.{amount_of, boxed, chars, first_there, frame_marks, glyph_at, inner, meaning, sense, shown_in, space_of, start_in}
use Rattle.vf_expand.specs.Causes.{InPacket, IsCauseBy, IsCharCause, IsFree, IsLarge, IsLeft, IsNested, IsOwnCause, IsTurnCause, Moment, Passes, inside}
use Rattle.vf_expand.specs.Shallow.{AllFindRoom, CharFinds, FindsRoom, PacketFinds}
use Rattle.vf_expand.specs.Page.{IsPageCause, IsShallowPage, page_acts, page_count, page_marks}
use Rattle.vf_expand.specs.declared.fault.WalkFault.{WalkFault}
use Rattle.vf_expand.specs.declared.fault.WalkFault.TheVariants as fault
use Rattle.vf_expand.proofs.Chars.{covered, covered_char, packet_covers}
use Rattle.vf_expand.proofs.Covering.{behind_is, covers_left, covers_right}
use Rattle.vf_expand.proofs.Faultless.{nested_none, no_marks, packet_marks, passed_walk, put_walk, set_walk, there_is, under_walk}
use Rattle.vf_expand.proofs.Walk.{go_on, walk, walk_page, walk_turn}

pub inj : {A : Type 0} (x y : A) → Some x ≡ Some y → x ≡ y
inj x y e = cc

-- ---- states of two walks

-- the selected font, if there is one, is known in both sets
abbrev pub Known : FontSet → FontSet → Option Key → Type 0
Known a b None = Unit {0}
Known a b (Some key) = (i : ℕ) × (j : ℕ) × Twin a b key i j

-- the state at a place, where the font of a key is selected
abbrev pub at_key : FontSet → Place → Option Key → State
at_key set p sel = record { place = p; font = id_of set sel }

-- Two states with one place, and with the font of one key in both sets.
pub record Same (a b : FontSet) (sel : Option Key) (s t : State) : Type 0 where
  pub place : Place
  pub left : s ≡ at_key a place sel
  pub right : t ≡ at_key b place sel
  pub known : Known a b sel

space_same : (a b : FontSet) (sel : Option Key) → Known a b sel → space_of a (id_of a sel) ≡ space_of b (id_of b sel)
space_same a b None k = refl
space_same a b (Some key) (i, j, t) =
    ap (space_of a) t.left
    ∙ ap (λ (n : ℕ). pos (n / 6)) (size_twin a b key i j t)
    ∙ ap (space_of b) (sym t.right)

-- the width of a character that gives marks
shown_width : (run : Program → Place → Outcome) (g : Grid) (id code : ℕ) (p : Place) (s : sets.State) (o : Option Program) (w : Option ℤ) (q : List Mark × ℤ) → shown_in run g id code p s o w ≡ Some q → (w ≡ Some q.1) × IsLoaded s
shown_width run g id code p s o None q e = absurd cc
shown_width run g id code p sets.State.Known o (Some w) q e = absurd cc
shown_width run g id code p (sets.State.Real tfm pk) o (Some w) q e =
    let made : List Mark × ℤ = (glyph_at g id code p w ∷ [], w) in
    let same : made ≡ q = inj made q e in
    (ap (λ (x : List Mark × ℤ). Some x.1) same, tt)
shown_width run g id code p (sets.State.Virtual tfm vf) None (Some w) q e = absurd cc
shown_width run g id code p (sets.State.Virtual tfm vf) (Some program) (Some w) q e = (by (run program (inner p)) e, tt)
  where
    by : (o : Outcome) → boxed w o ≡ Some q → Some w ≡ Some q.1
    by None k = absurd cc
    by (Some r) k =
        let made : List Mark × ℤ = (r.0, w) in
        let same : made ≡ q = inj made q k in
        ap (λ (x : List Mark × ℤ). Some x.1) same

-- Such a character: its code, its width, and that its font is loaded.
pub record Wide (set : FontSet) (id : ℕ) (z width : ℤ) : Type 0 where
  pub code : ℕ
  pub same : z ≡ pos code
  pub wide : width_at set id code ≡ Some width
  pub loaded : IsLoaded (state_at set id)

pub char_wide : (g : Grid) (set : FontSet) (n id : ℕ) (z : ℤ) (p : Place) (q : List Mark × ℤ) → chars g set n (Some id) z p ≡ Some q → Wide set id z q.1
unfolding chars
char_wide g set zero id (negsuc m) p q e = absurd cc
char_wide g set (suc n) id (negsuc m) p q e = absurd cc
char_wide g set zero id (pos c) p q e = let h = shown_width (λ x y. None) g id c p (state_at set id) (program_at set id c) (width_at set id c) q e in record { code = c; same = refl; wide = h.0; loaded = h.1 }
char_wide g set (suc n) id (pos c) p q e = let h = shown_width (λ x y. first_there set x.first (frame_marks g set n x y)) g id c p (state_at set id) (program_at set id c) (width_at set id c) q e in record { code = c; same = refl; wide = h.0; loaded = h.1 }

pub char_none : (g : Grid) (set : FontSet) (n : ℕ) (z : ℤ) (p : Place) (q : List Mark × ℤ) → chars g set n None z p ≡ Some q → ⊥
unfolding chars
char_none g set zero z p q e = cc
char_none g set (suc n) z p q e = cc

pub same_code : (x y : ℕ) → pos x ≡ pos y → x ≡ y
same_code x y e = cc

pub same_width : (o : Option ℤ) (x y : ℤ) → o ≡ Some x → o ≡ Some y → x ≡ y
same_width None x y e f = absurd cc
same_width (Some z) x y e f =
    sym (inj z x e) ∙ inj z y f

-- ---- one command

module _ (g : Grid) (a b : FontSet) (scope : Scope) (ca cb : Showing) where
  abbrev pub ma : Meaning
  ma = sense g a scope ca

  abbrev pub mb : Meaning
  mb = sense g b scope cb

  -- characters have one width in both sets
  abbrev pub Widths : Type 0
  Widths = (sel : Option Key) (z : ℤ) (p : Place) (q r : List Mark × ℤ) → Known a b sel → ca (id_of a sel) z p ≡ Some q → cb (id_of b sel) z p ≡ Some r → q.1 ≡ r.1

  module _ (p : Place) (sel : Option Key) (known : Known a b sel) where
    abbrev s : State
    s = at_key a p sel

    abbrev t : State
    t = at_key b p sel

    stays : (ms ns : List Mark) (u v : List Mark × State) → Some (ms, s) ≡ Some u → Some (ns, t) ≡ Some v → Same a b sel u.1 v.1
    stays ms ns u v e f =
        let x : List Mark × State = (ms, s) in
        let y : List Mark × State = (ns, t) in
        let l : x ≡ u = inj x u e in
        let r : y ≡ v = inj y v f in
        record { place = p; left = ap (λ (w : List Mark × State). w.1) (sym l); right = ap (λ (w : List Mark × State). w.1) (sym r); known = known }

    moves : (ms ns : List Mark) (o q : Option Place) (u v : List Mark × State) → o ≡ q → at_place ms (id_of a sel) o ≡ Some u → at_place ns (id_of b sel) q ≡ Some v → Same a b sel u.1 v.1
    moves ms ns None q u v e h k = absurd cc
    moves ms ns (Some x) None u v e h k = absurd cc
    moves ms ns (Some x) (Some y) u v e h k =
        let same : x ≡ y = inj x y e in
        let m : List Mark × State = (ms, at_key a x sel) in
        let n : List Mark × State = (ns, at_key b y sel) in
        let l : m ≡ u = inj m u h in
        let r : n ≡ v = inj n v k in
        record {
          place = x;
          left = ap (λ (w : List Mark × State). w.1) (sym l);
          right = ap (λ (w : List Mark × State). w.1) (sym r) ∙ ap (λ (z : Place). at_key b z sel) (sym same);
          known = known;
        }

    sized : (x y : ℤ) (o : Outcome) (u : List Mark × State) → where_sized x y o ≡ Some u → o ≡ Some u
    sized x y o u e = by (is_size x) (is_size y) e
      where
        by : (m n : Bool) → (if m && n then o else None) ≡ Some u → o ≡ Some u
        by true true k = k
        by true false k = absurd cc
        by false n k = absurd cc

    sets_char : (oa ob : Option (List Mark × ℤ)) (u v : List Mark × State) → ((q r : List Mark × ℤ) → oa ≡ Some q → ob ≡ Some r → q.1 ≡ r.1) → set_char g s oa ≡ Some u → set_char g t ob ≡ Some v → Same a b sel u.1 v.1
    sets_char None ob u v w h k = absurd cc
    sets_char (Some q) None u v w h k = absurd cc
    sets_char (Some q) (Some r) u v w h k = moves q.0 r.0 (past_char g q.1 p) (past_char g r.1 p) u v (ap (λ (x : ℤ). past_char g x p) (w q r refl refl)) h k

    puts_char : (oa ob : Option (List Mark × ℤ)) (u v : List Mark × State) → put_char s oa ≡ Some u → put_char t ob ≡ Some v → Same a b sel u.1 v.1
    puts_char None ob u v h k = absurd cc
    puts_char (Some q) None u v h k = absurd cc
    puts_char (Some q) (Some r) u v h k = stays q.0 r.0 u v h k

    fonts : (o : Option Key) (u v : List Mark × State) → in_font s (id_of a o) ≡ Some u → in_font t (id_of b o) ≡ Some v → Same a b o u.1 v.1
    fonts None u v h k = absurd cc
    fonts (Some key) u v h k = by (place_of a.fonts key) (place_of b.fonts key) refl refl h k
      where
        by : (x y : Option ℕ) → place_of a.fonts key ≡ x → place_of b.fonts key ≡ y → in_font s x ≡ Some u → in_font t y ≡ Some v → Same a b (Some key) u.1 v.1
        by None y e f h k = absurd cc
        by (Some i) None e f h k = absurd cc
        by (Some i) (Some j) e f h k =
            let m : List Mark × State = ([], record { place = p; font = Some i }) in
            let n : List Mark × State = ([], record { place = p; font = Some j }) in
            let l : m ≡ u = inj m u h in
            let r : n ≡ v = inj n v k in
            record {
              place = p;
              left = ap (λ (w : List Mark × State). w.1) (sym l) ∙ ap (λ (x : Option ℕ). let z : State = record { place = p; font = x } in z) (sym e);
              right = ap (λ (w : List Mark × State). w.1) (sym r) ∙ ap (λ (x : Option ℕ). let z : State = record { place = p; font = x } in z) (sym f);
              known = (i, j, record { left = e; right = f });
            }

    space : space_of a (id_of a sel) ≡ space_of b (id_of b sel)
    space = space_same a b sel known

    right_moves : (q : ℤ) (x : Place) (u v : List Mark × State) → at_place [] (id_of a sel) (right_by g (space_of a (id_of a sel)) q x) ≡ Some u → at_place [] (id_of b sel) (right_by g (space_of b (id_of b sel)) q x) ≡ Some v → Same a b sel u.1 v.1
    right_moves q x u v h k = moves [] [] (right_by g (space_of a (id_of a sel)) q x) (right_by g (space_of b (id_of b sel)) q x) u v (ap (λ (y : ℤ). right_by g y q x) space) h k

    down_moves : (q : ℤ) (x : Place) (u v : List Mark × State) → at_place [] (id_of a sel) (down_by g (space_of a (id_of a sel)) q x) ≡ Some u → at_place [] (id_of b sel) (down_by g (space_of b (id_of b sel)) q x) ≡ Some v → Same a b sel u.1 v.1
    down_moves q x u v h k = moves [] [] (down_by g (space_of a (id_of a sel)) q x) (down_by g (space_of b (id_of b sel)) q x) u v (ap (λ (y : ℤ). down_by g y q x) space) h k

    abbrev unit : ℤ → ℤ
    unit q = amount_of scope.size q

    set_rule : (x y : ℤ) (u v : List Mark × State) → where_sized x y (at_place (rule_marks g p x y) (id_of a sel) (past_rule g y p)) ≡ Some u → where_sized x y (at_place (rule_marks g p x y) (id_of b sel) (past_rule g y p)) ≡ Some v → Same a b sel u.1 v.1
    set_rule x y u v h k =
        moves (rule_marks g p x y) (rule_marks g p x y) (past_rule g y p) (past_rule g y p) u v refl (sized x y (at_place (rule_marks g p x y) (id_of a sel) (past_rule g y p)) u h)
        (sized x y (at_place (rule_marks g p x y) (id_of b sel) (past_rule g y p)) v k)

    put_rule : (x y : ℤ) (u v : List Mark × State) → where_sized x y (Some (rule_marks g p x y, s)) ≡ Some u → where_sized x y (Some (rule_marks g p x y, t)) ≡ Some v → Same a b sel u.1 v.1
    put_rule x y u v h k = stays (rule_marks g p x y) (rule_marks g p x y) u v (sized x y (Some (rule_marks g p x y, s)) u h) (sized x y (Some (rule_marks g p x y, t)) v k)

    step_same : Widths → (c : Command) (u v : List Mark × State) → step ma c s ≡ Some u → step mb c t ≡ Some v → Same a b (selected scope sel c) u.1 v.1
    unfolding step select
    step_same w (Set z) u v h k = sets_char (ca (id_of a sel) z p) (cb (id_of b sel) z p) u v (λ q r e f. w sel z p q r known e f) h k
    step_same w (Put z) u v h k = puts_char (ca (id_of a sel) z p) (cb (id_of b sel) z p) u v h k
    step_same w (Fnt n) u v h k = fonts (key_in scope.fonts n) u v h k
    step_same w (SetRule x y) u v h k = set_rule (unit x) (unit y) u v h k
    step_same w (PutRule x y) u v h k = put_rule (unit x) (unit y) u v h k
    step_same w Nop u v h k = stays [] [] u v h k
    step_same w (FntDef d) u v h k = stays [] [] u v h k
    step_same w (Xxx text) u v h k = stays (special_at p text ∷ []) (special_at p text ∷ []) u v h k
    step_same w (Right q) u v h k = right_moves (unit q) p u v h k
    step_same w W0 u v h k = right_moves p.w p u v h k
    step_same w (W q) u v h k = right_moves (unit q) (record p { w = unit q }) u v h k
    step_same w X0 u v h k = right_moves p.x p u v h k
    step_same w (X q) u v h k = right_moves (unit q) (record p { x = unit q }) u v h k
    step_same w (Down q) u v h k = down_moves (unit q) p u v h k
    step_same w Y0 u v h k = down_moves p.y p u v h k
    step_same w (Y q) u v h k = down_moves (unit q) (record p { y = unit q }) u v h k
    step_same w Z0 u v h k = down_moves p.z p u v h k
    step_same w (Z q) u v h k = down_moves (unit q) (record p { z = unit q }) u v h k
    step_same w (Bop counts back) u v h k = absurd cc
    step_same w Eop u v h k = absurd cc
    step_same w Push u v h k = absurd cc
    step_same w Pop u v h k = absurd cc
    step_same w (Pre head) u v h k = absurd cc
    step_same w (Post tail) u v h k = absurd cc
    step_same w (PostPost back id) u v h k = absurd cc

    abbrev BothTurned : Command → Turn → Turn → Type 0
    BothTurned c u v = (u.pushes ≡ v.pushes) × Same a b (selected scope sel c) u.state v.state

    stepped : (c : Command) (os : List Place) (x y : Outcome) (u v : Turn) → ((m n : List Mark × State) → x ≡ Some m → y ≡ Some n → Same a b (selected scope sel c) m.1 n.1) → of_step os x ≡ Some u → of_step os y ≡ Some v → BothTurned c u v
    stepped c os None y u v f h k = absurd cc
    stepped c os (Some m) None u v f h k = absurd cc
    stepped c os (Some m) (Some n) u v f h k =
        let x : Turn = record { marks = m.0; pushes = os; state = m.1 } in
        let y : Turn = record { marks = n.0; pushes = os; state = n.1 } in
        let l : x ≡ u = inj x u h in
        let r : y ≡ v = inj y v k in
        subst (λ (w : Turn). BothTurned c w v) l (subst (λ (w : Turn). BothTurned c x w) r (refl, f m n refl refl))

    popped : (os : List Place) (u v : Turn) → turned ma Pop os s ≡ Some u → turned mb Pop os t ≡ Some v → BothTurned Pop u v
    popped [] u v h k = absurd cc
    popped (o ∷ os) u v h k =
        let x : Turn = record { marks = []; pushes = os; state = restored o s } in
        let y : Turn = record { marks = []; pushes = os; state = restored o t } in
        let l : x ≡ u = inj x u h in
        let r : y ≡ v = inj y v k in
        subst (λ (w : Turn). BothTurned Pop w v) l (subst (λ (w : Turn). BothTurned Pop x w) r (refl, record { place = o; left = refl; right = refl; known = known }))

    pushed : (os : List Place) (u v : Turn) → turned ma Push os s ≡ Some u → turned mb Push os t ≡ Some v → BothTurned Push u v
    pushed os u v h k =
        let x : Turn = record { marks = []; pushes = p ∷ os; state = s } in
        let y : Turn = record { marks = []; pushes = p ∷ os; state = t } in
        let l : x ≡ u = inj x u h in
        let r : y ≡ v = inj y v k in
        subst (λ (w : Turn). BothTurned Push w v) l (subst (λ (w : Turn). BothTurned Push x w) r (refl, record { place = p; left = refl; right = refl; known = known }))

    turn_same : Widths → (c : Command) (os : List Place) (u v : Turn) → turned ma c os s ≡ Some u → turned mb c os t ≡ Some v → BothTurned c u v
    turn_same w Push os u v h k = pushed os u v h k
    turn_same w Pop os u v h k = popped os u v h k
    turn_same w c os u v h k = stepped c os (step ma c s) (step mb c t) u v (λ m n. step_same w c m n) h k

    -- a command that passes a limit in the one set passes it in the other
    passes_same : Widths → (c : Command) → ((z : ℤ) → c ≡ Set z → (r : List Mark × ℤ) × (cb (id_of b sel) z p ≡ Some r)) → Passes ma c s → Passes mb c t
    passes_same w (Set z) f (q, e, large) =
        let r = f z refl in
        (r.0, r.1, subst (λ (x : ℤ). IsLarge (p.h +ℤ x)) (w sel z p q r.0 known e r.1) large)
    passes_same w _ f h = h

  -- ---- commands one after another

  -- The other walk, behind the same commands.
  record Beside (sel : Option Key) (os : List Place) (s : State) (rest : List Placed) (o : Option Standing) : Type 0 where
    state : State
    left : o ≡ Some (record { pushes = os; state = state })
    same : Same a b sel s state
    goes : walk mb rest os state ≡ None → ⊥

  pub turn_at : Widths → (sel : Option Key) (x y : State) → Same a b sel x y → (c : Command) (os : List Place) (u v : Turn) → turned ma c os x ≡ Some u → turned mb c os y ≡ Some v → (u.pushes ≡ v.pushes) × Same a b (selected scope sel c) u.state v.state
  turn_at w sel x y h c os u v e f =
      turn_same h.place sel h.known w c os u v (ap (turned ma c os) (sym h.left) ∙ e) (ap (turned mb c os) (sym h.right) ∙ f)

  prepended : (ms : List Mark) (o : Outcome) → o ≡ None → prepend ms o ≡ None
  prepended ms None e = refl
  prepended ms (Some r) e = absurd cc

  -- what is so of these commands, from whatever states
  abbrev Further : List Placed → List Placed → Type 0
  Further cs rest =
      (sel : Option Key) (os ps : List Place) (x y r : State) → Same a b sel x y → left_from ma cs os x ≡ Some (record { pushes = ps; state = r }) → (walk mb (cs ++ rest) os y ≡ None → ⊥)
      → Beside (selected_after scope sel cs) ps r rest (left_from mb cs os y)

  left_same : Widths → (before rest : List Placed) (sel : Option Key) (os ps : List Place) (x y r : State) → Same a b sel x y → left_from ma before os x ≡ Some (record { pushes = ps; state = r }) → (walk mb (before ++ rest) os y ≡ None → ⊥)
      → Beside (selected_after scope sel before) ps r rest (left_from mb before os y)
  left_same w [] rest sel os ps x y r h e goes =
      let l : Standing = record { pushes = os; state = x } in
      let k : Standing = record { pushes = ps; state = r } in
      let both : l ≡ k = inj l k e in
      let p : os ≡ ps = ap (λ (z : Standing). z.pushes) both in
      let q : x ≡ r = ap (λ (z : Standing). z.state) both in
      record {
        state = y;
        left = ap (λ (z : List Place). let st : Standing = record { pushes = z; state = y } in Some st) p;
        same = subst (λ (z : State). Same a b sel z y) q h;
        goes = λ n. goes (ap (λ (z : List Place). walk mb rest z y) p ∙ n);
      }
  left_same w (c ∷ cs) rest sel os ps x y r h e goes =
      by (λ sel os ps x y r h e goes. left_same w cs rest sel os ps x y r h e goes) (turned ma c.command os x) (turned mb c.command os y) refl refl e
    where
      on : Further cs rest → (u v : Turn) → turned ma c.command os x ≡ Some u → turned mb c.command os y ≡ Some v → left_from ma cs u.pushes u.state ≡ Some (record { pushes = ps; state = r })
          → Beside (selected_after scope (selected scope sel c.command) cs) ps r rest (left_behind (turned mb c.command os y) (left_from mb cs))
      on further u v e f k =
          let t = turn_at w sel x y h c.command os u v e f in
          let onward : walk mb (cs ++ rest) u.pushes v.state ≡ None → ⊥ =
          λ n. goes (walk_turn mb c (cs ++ rest) os y ∙ ap (λ (o : Option Turn). go_on o (walk mb (cs ++ rest))) f ∙ prepended v.marks (walk mb (cs ++ rest) v.pushes v.state) (ap (λ (z : List Place). walk mb (cs ++ rest) z v.state) (sym t.0) ∙ n)) in
          let i = further (selected scope sel c.command) u.pushes ps u.state v.state r t.1 k onward in
          let same : left_behind (turned mb c.command os y) (left_from mb cs) ≡ left_from mb cs u.pushes v.state =
          ap (λ (o : Option Turn). left_behind o (left_from mb cs)) f ∙ ap (λ (z : List Place). left_from mb cs z v.state) (sym t.0) in
          record { state = i.state; left = same ∙ i.left; same = i.same; goes = i.goes }

      by : Further cs rest → (m n : Option Turn) → turned ma c.command os x ≡ m → turned mb c.command os y ≡ n → left_behind m (left_from ma cs) ≡ Some (record { pushes = ps; state = r })
          → Beside (selected_after scope (selected scope sel c.command) cs) ps r rest (left_behind (turned mb c.command os y) (left_from mb cs))
      by further None n e f k = absurd cc
      by further (Some u) None e f k = absurd (goes (walk_turn mb c (cs ++ rest) os y ∙ ap (λ (o : Option Turn). go_on o (walk mb (cs ++ rest))) f))
      by further (Some u) (Some v) e f k = on further u v e f k

  undone : (x : Outcome) (r : List Mark × State) → x ≡ Some r → x ≡ None → ⊥
  undone None r e n = cc
  undone (Some y) r e n = cc

  moment_same : Widths → (sel : Option Key) (x y : State) (cs : List Placed) (at : ℕ) (r : List Mark × State) → Same a b sel x y → walk mb cs [] y ≡ Some r → (o : Moment ma x cs at)
      → Beside (selected_after scope sel o.before) o.pushes o.state (record { place = at; command = o.command } ∷ o.behind) (left_by mb y o.before)
  unfolding left_by
  moment_same w sel x y cs at r h all o =
      left_same w o.before (record { place = at; command = o.command } ∷ o.behind) sel [] o.pushes x y o.state h o.left
      (λ n. undone (walk mb cs [] y) r all (ap (λ (z : List Placed). walk mb z [] y) (sym o.whole) ∙ n))

  whole_same : Widths → (sel : Option Key) (x y : State) (cs : List Placed) (st : Standing) (r : List Mark × State) → Same a b sel x y → walk mb cs [] y ≡ Some r → left_by ma x cs ≡ Some st → Beside (selected_after scope sel cs) st.pushes st.state [] (left_by mb y cs)
  unfolding left_by
  whole_same w sel x y cs st r h all e =
      left_same w cs [] sel [] st.pushes x y st.state h e (λ n. undone (walk mb cs [] y) r all (ap (λ (z : List Placed). walk mb z [] y) (sym (append-nil cs)) ∙ n))

  -- ---- why one frame stops

  own_same : {F : Type 0} → Widths → (sp : Spot) (around at : ℕ) (c : Command) (behind : List Placed) (os : List Place) (sel : Option Key) (x y : State) → Same a b sel x y → (walk mb (record { place = at; command = c } ∷ behind) os y ≡ None → ⊥) → (c ≡ Push → around + length os < 1000) → (e : WalkFault F)
      → IsOwnCause ma sp around c os x e → IsOutside e
  own_same w sp around at c behind os sel x y h goes room (fault.StackUnder s) k = goes (under_walk mb at c behind os y k.1)
  own_same w sp around at c behind os sel x y h goes room (fault.StackLeft s) k = k
  own_same w sp around at c behind os sel x y h goes room (fault.StackDeep s) k = let few = room k.1.0 in omega (arith, few, k.1.1)
  own_same w sp around at c behind os sel x y h goes room (fault.NestDeep id code) k = k
  own_same w sp around at c behind os sel x y h goes room fault.TooManySteps k = tt
  own_same w sp around at c behind os sel x y h goes room (fault.Overflow s) k =
      let here : Passes ma c (at_key a h.place sel) = subst (Passes ma c) h.left k.1 in
      let there = passes_same h.place sel h.known w c char_there here in
      goes (passed_walk mb at c behind os y (subst (Passes mb c) (sym h.right) there))
    where
      char_there : (z : ℤ) → c ≡ Set z → (r : List Mark × ℤ) × (cb (id_of b sel) z h.place ≡ Some r)
      char_there z e =
          there_is (cb (id_of b sel) z h.place)
          (λ n. goes (ap (λ (d : Command). walk mb (record { place = at; command = d } ∷ behind) os y) e ∙ set_walk mb at z behind os y (ap (λ (q : State). cb q.font z q.place) h.right ∙ n)))
  own_same w sp around at c behind os sel x y h goes room (fault.Canvas f) k = tt

-- ---- frames

-- the command that stands behind these is covered
command_covers : (set : FontSet) (p : Program) (before : List Placed) (c : Placed) (behind : List Placed) → before ++ c ∷ behind ≡ p.commands → Covers set (acts_of p) → Covers set (acts_of_command p.scope (selected_after p.scope (key_of_first p.first) before) c.command)
unfolding acts_from
command_covers set p before c behind e h =
    let f = behind_first p in
    let start = key_of_first p.first in
    let sel = selected_after p.scope start before in
    let here = acts_of_command p.scope sel c.command in
    let rest = acts_from p.scope (selected p.scope sel c.command) behind in
    let first = acts_from p.scope start before in
    let commands : acts_from p.scope start p.commands ≡ first ++ (here ++ rest) = ap (acts_from p.scope start) (sym e) ∙ acts_split p.scope start before (c ∷ behind) in
    let all : Covers set (f.0 ++ (first ++ (here ++ rest))) = subst (Covers set) (f.1 ∙ ap (λ (xs : List FontAct). f.0 ++ xs) commands) h in
    covers_left set here rest (covers_right set first (here ++ rest) (covers_right set f.0 (first ++ (here ++ rest)) all))

pub known_by : (a b : FontSet) (key : Key) (x y : Option ℕ) → place_of a.fonts key ≡ x → place_of b.fonts key ≡ y → IsKnownAt x → IsKnownAt y → Known a b (Some key)
known_by a b key None y e f h k = absurd h
known_by a b key (Some i) None e f h k = absurd k
known_by a b key (Some i) (Some j) e f h k = (i, j, record { left = e; right = f })

-- the first font of a frame that both sets cover is known in both
first_known : (a b : FontSet) (scope : Scope) (first : Option Named) (cs : List Placed) → Covers a (acts_with_first scope first cs) → Covers b (acts_with_first scope first cs) → Known a b (key_of_first first)
first_known a b scope None cs h k = tt
first_known a b scope (Some f) cs h k = by f.key h.here.0 k.here.0
  where
    by : (o : Option Key) → IsGood a (select_act o) → IsGood b (select_act o) → Known a b o
    by None x y = absurd x
    by (Some key) x y = known_by a b key (place_of a.fonts key) (place_of b.fonts key) refl refl x y

pub start_same : (a b : FontSet) (program : Program) (p : Place) → Known a b (key_of_first program.first) → Same a b (key_of_first program.first) (start_in a program p) (start_in b program p)
unfolding first_font
start_same a b program p k = record { place = p; left = refl; right = refl; known = k }

nothing_open : (m : Meaning) (os : List Place) (s : State) → (walk m [] os s ≡ None → ⊥) → 0 < length os → ⊥
unfolding walk
nothing_open m [] s goes l = omega (arith, l)
nothing_open m (o ∷ os) s goes l = goes refl

virtual_loaded : (s : sets.State) → IsVirtual s → IsLoaded s
virtual_loaded sets.State.Known h = h
virtual_loaded (sets.State.Real tfm pk) h = absurd h
virtual_loaded (sets.State.Virtual tfm vf) h = tt

same_id : (i j : ℕ) → Some i ≡ Some j → i ≡ j
same_id i j e = cc

free_outside : {F : Type 0} (e : WalkFault F) → IsFree e → IsOutside e
free_outside fault.TooManySteps h = tt
free_outside (fault.Canvas f) h = tt
free_outside _ h = absurd h

either : {A B C : Type 0} → (A → C) → (B → C) → A ⊎ B → C
either f k (inl x) = f x
either f k (inr y) = k y

module _ (one : OneFontOf) (held : Contents) (a b : FontSet) (alike : Alike held a b) (g : Grid) where
  pub widths : (n : ℕ) (scope : Scope) → Widths g a b scope (chars g a n) (chars g b n)
  widths n scope None z p q r k e f = absurd (char_none g a n z p q e)
  widths n scope (Some key) z p q r (i, j, t) e f =
      let x = char_wide g a n i z p q (ap (λ (o : Option ℕ). chars g a n o z p) (sym t.left) ∙ e) in
      let y = char_wide g b n j z p r (ap (λ (o : Option ℕ). chars g b n o z p) (sym t.right) ∙ f) in
      let code : x.code ≡ y.code = same_code x.code y.code (sym x.same ∙ y.same) in
      same_width (width_at a i x.code) q.1 r.1 x.wide (width_twin one held a b alike key i j x.code t x.loaded y.loaded ∙ ap (width_at b j) code ∙ y.wide)

  -- A character of the one set, as it stands in the other.
  record Beyond (key : Key) (id code : ℕ) : Type 0 where
    other : ℕ
    twin : Twin a b key id other
    loaded : IsLoaded (state_at b other)

  beyond : (key : Key) (id code : ℕ) → Known a b (Some key) → id_of a (Some key) ≡ Some id → Covers b (char_act (Some key) (pos code) ∷ []) → Beyond key id code
  beyond key id code (i, j, t) e cb =
      let k = covered_char b (Some key) j code t.right cb in
      let same : i ≡ id = same_id i id (sym t.left ∙ e) in
      record { other = j; twin = record { left = e; right = t.right }; loaded = shown_loaded (state_at b j) code k.shown }

  nested_same : (key : Key) (id code : ℕ) (p : Place) (q : List Mark × ℤ) → Beyond key id code → chars g b 0 (place_of b.fonts key) (pos code) p ≡ Some q → IsVirtual (state_at a id) → ⊥
  nested_same key id code p q x e v =
      let same = state_twin one held a b alike key id x.other x.twin (virtual_loaded (state_at a id) v) x.loaded in
      let t = x.twin in
      no_marks (chars g b 0 (place_of b.fonts key) (pos code) p) q e (ap (λ (o : Option ℕ). chars g b 0 o (pos code) p) t.right ∙ nested_none g b x.other code p (subst IsVirtual same v))

module _ (F : Type 0) (one : OneFontOf) (held : Contents) (a b : FontSet) (alike : Alike held a b) (g : Grid) where
  -- what is so of a character that both sets cover, and that gives marks and finds room with the one
  abbrev CharLaw : ℕ → Type 0
  CharLaw n =
      (around : ℕ) (sel : Option Key) (z : ℤ) (p : Place) (q : List Mark × ℤ) (e : WalkFault F) → Known a b sel → Covers a (char_act sel z ∷ []) → Covers b (char_act sel z ∷ []) → chars g b n (id_of b sel) z p ≡ Some q → PacketFinds g b n around (id_of b sel) z p
      → inside g a n around (id_of a sel) z p e → IsOutside e

  module _ (n : ℕ) (law : CharLaw n) (scope : Scope) where
    char_at : (around at : ℕ) (c : Command) (behind : List Placed) (os : List Place) (sel : Option Key) (x y : State) → Same a b sel x y → (walk (meaning g b n scope) (record { place = at; command = c } ∷ behind) os y ≡ None → ⊥) → Covers a (acts_of_command scope sel c) → Covers b (acts_of_command scope sel c)
        → CharFinds (PacketFinds g b n around) c y → (e : WalkFault F) → IsCharCause (inside g a n around) c x e → IsOutside e
    char_at around at (Set z) behind os sel x y h goes ca cb room e k =
        let q = there_is (chars g b n y.font z y.place) (λ none. goes (set_walk (meaning g b n scope) at z behind os y none)) in
        law around sel z h.place q.0 e h.known ca cb (ap (λ (s : State). chars g b n s.font z s.place) (sym h.right) ∙ q.1) (subst (λ (s : State). PacketFinds g b n around s.font z s.place) h.right room)
        (subst (λ (s : State). inside g a n around s.font z s.place e) h.left k)
    char_at around at (Put z) behind os sel x y h goes ca cb room e k =
        let q = there_is (chars g b n y.font z y.place) (λ none. goes (put_walk (meaning g b n scope) at z behind os y none)) in
        law around sel z h.place q.0 e h.known ca cb (ap (λ (s : State). chars g b n s.font z s.place) (sym h.right) ∙ q.1) (subst (λ (s : State). PacketFinds g b n around s.font z s.place) h.right room)
        (subst (λ (s : State). inside g a n around s.font z s.place e) h.left k)
    char_at around at _ behind os sel x y h goes ca cb room e k = absurd k

  frame_same : (n : ℕ) → CharLaw n → (program : Program) (p : Place) (r : List Mark × State) → frame_marks g b n program p ≡ Some r → Covers a (acts_of program) → Covers b (acts_of program) → (at : ℕ → Spot) (end around : ℕ)
      → AllFindRoom (PacketFinds g b n) (meaning g b n program.scope) (start_in b program p) program.commands around → (e : WalkFault F) → IsCauseBy (inside g a n) (meaning g a n program.scope) (start_in a program p) program.commands at end around e → IsOutside e
  frame_same n law program p r marked ca cb at end around room e (inl (place, o, cause)) =
      let scope = program.scope in
      let start = key_of_first program.first in
      let sel = selected_after scope start o.before in
      let same = start_same a b program p (first_known a b scope program.first program.commands ca cb) in
      let all = walk_page (meaning g b n scope) program.commands (start_in b program p) ∙ marked in
      let w = widths one held a b alike g n scope in
      let beside = moment_same g a b scope (chars g a n) (chars g b n) w start (start_in a program p) (start_in b program p) program.commands place r same all o in
      let there : Moment (meaning g b n scope) (start_in b program p) program.commands place =
      record { before = o.before; command = o.command; behind = o.behind; pushes = o.pushes; state = beside.state; whole = o.whole; left = beside.left } in
      let finds = room place there in
      let c : Placed = record { place = place; command = o.command } in
      turn place o sel beside.state beside.same beside.goes (command_covers a program o.before c o.behind o.whole ca) (command_covers b program o.before c o.behind o.whole cb) finds cause
    where
      turn : (place : ℕ) (o : Moment (meaning g a n program.scope) (start_in a program p) program.commands place) (sel : Option Key) (y : State) → Same a b sel o.state y
          → (walk (meaning g b n program.scope) (record { place = place; command = o.command } ∷ o.behind) o.pushes y ≡ None → ⊥) → Covers a (acts_of_command program.scope sel o.command) → Covers b (acts_of_command program.scope sel o.command)
          → FindsRoom (PacketFinds g b n) around o.command o.pushes y → IsTurnCause (meaning g a n program.scope) (at place) around (inside g a n (around + length o.pushes)) o.command o.pushes o.state e → IsOutside e
      turn place o sel y same goes xa xb finds (inl k) =
          own_same g a b program.scope (chars g a n) (chars g b n) (widths one held a b alike g n program.scope) (at place) around place o.command o.behind o.pushes sel o.state y same goes finds.0 e k
      turn place o sel y same goes xa xb finds (inr k) =
          char_at n law program.scope (around + length o.pushes) place o.command o.behind o.pushes sel o.state y same goes xa xb finds.1 e k
  frame_same n law program p r marked ca cb at end around room e (inr h) = left e h
    where
      left : (e : WalkFault F) → IsLeft (meaning g a n program.scope) (start_in a program p) program.commands (at end) e → IsOutside e
      left (fault.StackLeft x) (is, st, k, some) =
          let scope = program.scope in
          let start = key_of_first program.first in
          let same = start_same a b program p (first_known a b scope program.first program.commands ca cb) in
          let all = walk_page (meaning g b n scope) program.commands (start_in b program p) ∙ marked in
          let beside = whole_same g a b scope (chars g a n) (chars g b n) (widths one held a b alike g n scope) start (start_in a program p) (start_in b program p) program.commands st r same all k in
          nothing_open (meaning g b n scope) st.pushes beside.state beside.goes some
      left _ h = absurd h

  -- a character of a packet that stops
  in_packet : (n : ℕ) → CharLaw n → (around : ℕ) (key : Key) (z : ℤ) (p : Place) (q : List Mark × ℤ) (e : WalkFault F) → Known a b (Some key) → Covers a (char_act (Some key) z ∷ []) → Covers b (char_act (Some key) z ∷ []) → chars g b (suc n) (id_of b (Some key)) z p ≡ Some q
      → PacketFinds g b (suc n) around (id_of b (Some key)) z p
      → InPacket a (λ id code program end e. IsCauseBy (inside g a n) (meaning g a n program.scope) (start_in a program (inner p)) program.commands (λ at. spot.Packet id code at) end around e) (id_of a (Some key)) z e → IsOutside e
  unfolding PacketFinds
  in_packet n law around key z p q e known ca cb marked finds h =
      let id = h.id in
      let code = h.code in
      let program = h.program in
      let ca1 = subst (λ (y : ℤ). Covers a (char_act (Some key) y ∷ [])) h.same_code ca in
      let cb1 = subst (λ (y : ℤ). Covers b (char_act (Some key) y ∷ [])) h.same_code cb in
      let x = beyond one held a b alike g key id code known h.same_font cb1 in
      let t = x.twin in
      let runs : program_at b x.other code ≡ Some program = sym (program_twin one held a b alike key id x.other code t (packet_loaded a id code program h.runs) x.loaded) ∙ h.runs in
      let there : chars g b (suc n) (Some x.other) (pos code) p ≡ Some q =
      ap (λ (o : Option ℕ). chars g b (suc n) o (pos code) p) (sym t.right) ∙ ap (λ (y : ℤ). chars g b (suc n) (place_of b.fonts key) y p) (sym h.same_code) ∙ marked in
      let m = packet_marks g b n x.other code p program q runs there in
      frame_same n law program (inner p) m.0 m.1 (packet_covers a (Some key) id code (covered_char a (Some key) id code h.same_font ca1) program h.runs ca1)
      (packet_covers b (Some key) x.other code (covered_char b (Some key) x.other code t.right cb1) program runs cb1) (λ at. spot.Packet id code at) (length h.bytes) around
      (finds x.other code program t.right h.same_code runs) e h.stops

  chars_same : (n : ℕ) → CharLaw n
  unfolding inside
  chars_same zero around None z p q e known ca cb marked finds h = absurd (char_none g b 0 z p q marked)
  chars_same (suc n) around None z p q e known ca cb marked finds h = absurd (char_none g b (suc n) z p q marked)
  chars_same zero around (Some key) z p q e known ca cb marked finds h = by e h
    where
      by : (e : WalkFault F) → IsNested a (id_of a (Some key)) z e → IsOutside e
      by (fault.NestDeep id code) (font, is, v) =
          let cb1 = subst (λ (y : ℤ). Covers b (char_act (Some key) y ∷ [])) is cb in
          nested_same one held a b alike g key id code p q (beyond one held a b alike g key id code known font cb1) (ap (λ (y : ℤ). chars g b 0 (place_of b.fonts key) y p) (sym is) ∙ marked) v
      by fault.TooManySteps k = tt
      by (fault.Canvas f) k = tt
      by _ k = absurd k
  chars_same (suc n) around (Some key) z p q e known ca cb marked finds h = either (free_outside e) (in_packet n (chars_same n) around key z p q e known ca cb marked finds) h

  -- A page whose marks are defined and whose pushes are never too deep with the one set, of which each covers it: no fault stands in it
  -- with the other.
  pub faultless_alike : (ds : List Definition) (p : PageOf) (r : List Mark × State) → Covers a (page_acts ds p.commands) → Covers b (page_acts ds p.commands) → page_marks g b ds p.commands ≡ Some r → IsShallowPage g b ds p.commands → (e : WalkFault F) → IsPageCause g a ds p e → IsOutside e
  faultless_alike ds p r ca cb marked shallow e h = frame_same 16 (chars_same 16) (page_program ds p.commands) origin r marked ca cb (λ at. spot.Page at) p.eop 0 shallow e h

-- ---- commands that are counted

module _ (one : OneFontOf) (held : Contents) (a b : FontSet) (alike : Alike held a b) where
  abbrev CountLaw : ℕ → Type 0
  CountLaw n = (sel : Option Key) (z : ℤ) → Covers a (char_act sel z ∷ []) → Covers b (char_act sel z ∷ []) → runs a n (id_of a sel) z ≡ runs b n (id_of b sel) z

  weight_same : (n : ℕ) → CountLaw n → (scope : Scope) (sel : Option Key) (c : Command) → Covers a (acts_of_command scope sel c) → Covers b (acts_of_command scope sel c) → weight (runs a n) (id_of a sel) c ≡ weight (runs b n) (id_of b sel) c
  weight_same n law scope sel (Set z) ca cb = ap (λ (x : ℕ). 1 + x) (law sel z ca cb)
  weight_same n law scope sel (Put z) ca cb = ap (λ (x : ℕ). 1 + x) (law sel z ca cb)
  weight_same n law scope sel _ ca cb = refl

  count_same : (n : ℕ) → CountLaw n → (scope : Scope) (sel : Option Key) (cs : List Placed) → Covers a (acts_from scope sel cs) → Covers b (acts_from scope sel cs)
      → count_by (runs a n) (select a scope) (id_of a sel) cs ≡ count_by (runs b n) (select b scope) (id_of b sel) cs
  unfolding acts_from
  count_same n law scope sel [] ca cb = refl
  count_same n law scope sel (c ∷ cs) ca cb =
      let next = selected scope sel c.command in
      let here = acts_of_command scope sel c.command in
      let rest = acts_from scope next cs in
      let w = weight_same n law scope sel c.command (covers_left a here rest ca) (covers_left b here rest cb) in
      let i = count_same n law scope next cs (covers_right a here rest ca) (covers_right b here rest cb) in
      let left = ap (λ (o : Option ℕ). count_by (runs a n) (select a scope) o cs) (sym (behind_is a scope sel c.command)) in
      let right = ap (λ (o : Option ℕ). count_by (runs b n) (select b scope) o cs) (behind_is b scope sel c.command) in
      ap (λ (x : ℕ). x + count_by (runs a n) (select a scope) (font_behind (select a scope) (id_of a sel) c.command) cs) w
      ∙ ap (λ (x : ℕ). weight (runs b n) (id_of b sel) c.command + x) (left ∙ i ∙ right)

  count_frame : (n : ℕ) → CountLaw n → (program : Program) → Covers a (acts_of program) → Covers b (acts_of program) → count a n program ≡ count b n program
  unfolding first_font
  count_frame n law program ca cb =
      let f = behind_first program in
      let start = key_of_first program.first in
      let acts = acts_from program.scope start program.commands in
      count_same n law program.scope start program.commands (covers_right a f.0 acts (subst (Covers a) f.1 ca)) (covers_right b f.0 acts (subst (Covers b) f.1 cb))

  no_runs : (set : FontSet) (id code : ℕ) → runs set 0 (Some id) (pos code) ≡ 0
  unfolding runs
  no_runs set id code = by (program_at set id code)
    where
      by : (o : Option Program) → count_of_packet (λ p. 0) o ≡ 0
      by None = refl
      by (Some p) = refl

  runs_at : (set : FontSet) (n id code : ℕ) → runs set (suc n) (Some id) (pos code) ≡ count_of_packet (count set n) (program_at set id code)
  unfolding runs
  runs_at set n id code = refl

  nothing_runs : (set : FontSet) (n : ℕ) (z : ℤ) → runs set n None z ≡ 0
  unfolding runs
  nothing_runs set zero z = refl
  nothing_runs set (suc n) z = refl

  runs_same : (n : ℕ) → CountLaw n
  runs_same n None z ca cb = nothing_runs a n z ∙ sym (nothing_runs b n z)
  runs_same zero (Some key) z ca cb =
      let x = covered a (Some key) (place_of a.fonts key) z refl ca in
      let y = covered b (Some key) (place_of b.fonts key) z refl cb in
      ap (λ (o : Option ℕ). runs a 0 o z) x.same_font
      ∙ ap (λ (w : ℤ). runs a 0 (Some x.id) w) x.same_code
      ∙ no_runs a x.id x.code
      ∙ sym (no_runs b y.id y.code)
      ∙ ap (λ (w : ℤ). runs b 0 (Some y.id) w) (sym y.same_code)
      ∙ ap (λ (o : Option ℕ). runs b 0 o z) (sym y.same_font)
  runs_same (suc n) (Some key) z ca cb =
      let x = covered a (Some key) (place_of a.fonts key) z refl ca in
      let code = x.code in
      let ca1 = subst (λ (w : ℤ). Covers a (char_act (Some key) w ∷ [])) x.same_code ca in
      let cb1 = subst (λ (w : ℤ). Covers b (char_act (Some key) w ∷ [])) x.same_code cb in
      let y = covered b (Some key) (place_of b.fonts key) (pos code) refl cb1 in
      let t : Twin a b key x.id y.id = record { left = x.same_font; right = y.same_font } in
      let small : y.code ≡ code = sym (same_code code y.code y.same_code) in
      let shown : IsShown (state_at b y.id) code = subst (IsShown (state_at b y.id)) small y.shown in
      let same = program_twin one held a b alike key x.id y.id code t (shown_loaded (state_at a x.id) code x.shown) (shown_loaded (state_at b y.id) code shown) in
      ap (λ (o : Option ℕ). runs a (suc n) o z) x.same_font
      ∙ ap (λ (w : ℤ). runs a (suc n) (Some x.id) w) x.same_code
      ∙ runs_at a n x.id code
      ∙ by (runs_same n) x.id y.id code t ca1 cb1 (program_at a x.id code) (program_at b y.id code) refl refl same
      ∙ sym (runs_at b n y.id code)
      ∙ ap (λ (w : ℤ). runs b (suc n) (Some y.id) w) (sym x.same_code)
      ∙ ap (λ (o : Option ℕ). runs b (suc n) o z) (sym y.same_font)
    where
      by : CountLaw n → (i j code : ℕ) → Twin a b key i j → Covers a (char_act (Some key) (pos code) ∷ []) → Covers b (char_act (Some key) (pos code) ∷ []) → (o q : Option Program) → program_at a i code ≡ o → program_at b j code ≡ q → o ≡ q
          → count_of_packet (count a n) o ≡ count_of_packet (count b n) q
      by law i j code t ca cb None None e f h = refl
      by law i j code t ca cb None (Some q) e f h = absurd cc
      by law i j code t ca cb (Some p) None e f h = absurd cc
      by law i j code t ca cb (Some p) (Some q) e f h =
          let same : p ≡ q = inj p q h in
          let here = packet_covers a (Some key) i code (covered_char a (Some key) i code t.left ca) p e ca in
          let there = packet_covers b (Some key) j code (covered_char b (Some key) j code t.right cb) q f cb in
          count_frame n law p here (subst (λ (x : Program). Covers b (acts_of x)) (sym same) there) ∙ ap (count b n) same

  -- a page runs as many commands with the one as with the other
  pub count_alike : (ds : List Definition) (cs : List Placed) → Covers a (page_acts ds cs) → Covers b (page_acts ds cs) → page_count a ds cs ≡ page_count b ds cs
  count_alike ds cs ca cb = count_frame 16 (runs_same 16) (page_program ds cs) ca cb
