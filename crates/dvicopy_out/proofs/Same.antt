-- That the pages of a copy have the marks of the original's.
use Rattle.std.proofs.Common.{◌≡◌, ◌<◌, ◌+◌, ◌^◌, ◌+ℤ◌, ◌-ℤ◌, ℕ, ℤ, pos, negsuc, zero, suc, Bool, true, false, List, [], ◌∷◌, ◌++◌, length, take, Option, Some, None, refl, sym, ap, subst, ◌∙◌, arith, append_assoc, lt-ltb, ltb-true}
use Rattle.std.specs.Prelude.{if◌then◌else◌, unsigned_abs, nat_eq, int_lt, slice_get, ◌&&◌}
use Rattle.std.specs.List.{AllByRecursion}
use Rattle.std.specs.Ordering.{int_eq}
use Rattle.std.proofs.lemmas.Bool.Decides.{Decides-int_eq, Decides-eqb}
use Rattle.std.proofs.lemmas.Int.{ints}
use Rattle.std.proofs.lemmas.List.{append-nil, map-append}
use Rattle.dv_base.specs.Rounding.{rounded}
use Rattle.positions.specs.Drift.{advanced, down, is_large_across, is_large_down, pixels_after, pixels_behind, right}
use Rattle.positions.specs.Mark.{Mark, Small}
use Rattle.positions.specs.Mark.Mark.{OfGlyph, OfRule, OfSpecial}
use Rattle.positions.specs.Place.{Place, origin}
use Rattle.dvi_ops.specs.Command.{Command, Definition}
use Rattle.dvi_ops.specs.Command.Command.{Set, Put, PutRule, Right, Down, Fnt, Xxx, Bop}
use Rattle.dvi_ops.specs.Placed.{Placed}
use Rattle.dvi_ops.specs.Shortest.{shortest_whole}
use Rattle.font_set.specs.Tree.{Tree, bracket, level, levels, tree_of, whole_tree}
use Rattle.font_set.specs.Tree.Tree.{End, Then}
use Rattle.font_set.specs.Tree.Bracket.{Neither}
use Rattle.font_set.specs.Key.{Key}
use Rattle.font_set.specs.Programs.{Program, id_of, key_in, page_fonts, page_program, page_scope, program_at, select}
use Rattle.font_set.specs.Fonts.{Entry, FontSet, State, entry_key, key_at, place_of, state_at, state_in, width_at}
use Rattle.vf_expand.specs.Grid as grid
use Rattle.vf_expand.specs.Grid.{Grid}
use Rattle.vf_expand.specs.Meaning.{Meaning}
use Rattle.vf_expand.specs.Marks.{Outcome, after, at_place, down_by, in_font, is_size, marks, marks_of, past_char, prepend, put_char, right_by, rule_at, rule_marks, set_char, special_at, step}
use Rattle.vf_expand.specs.Pages.{chars, first_there, frame_by, glyph_at, meaning, most_nested, shown_in, start_in}
use Rattle.vf_expand.specs.Page.{page_marks}
use Rattle.dvi_doc.specs.Document.{Item, PageOf, document_of, pages_of}
use Rattle.dvi_ops.specs.Command.Command.{Pre}
use Rattle.dvicopy_out.specs.Units.{AreOf, CopyKeepsPages, HasUnits, IsOf, SamePages, Serves, Serving, UnitMark, unit_of, units_of}
use Rattle.dvicopy_out.specs.Units.UnitMark.{UnitGlyph, UnitRule, UnitSpecial}
use Rattle.dvicopy_out.specs.AsDocument.{file_of, paged, pages_place, placed_from, post_command, post_place}
use Rattle.dvicopy_out.specs.Copies.{Page, page_commands, preamble}
use Rattle.dvicopy_out.specs.Marked.{Pen, char_command, fits, mark_commands, mark_pen, marks_commands, page_pen, selecting, way}
use Rattle.dvicopy_out.specs.Moves.{first_part, moves, part}
use Rattle.dvicopy_out.specs.Numbered.{definitions, is_real, number_of, one_where, reals_in}
use Rattle.dvicopy_out.specs.Spelled.{spelled}
use Rattle.dvicopy_out.specs.Writable.{IsPut, IsPutPage}
use Rattle.dvicopy_out.proofs.Documented.{Paints, defs_are, defs_from, defs_put, marks_inner, pages_of_fillers, placed_both}

-- ---- commands that are no pushes and pops are a tree without groups

abbrev pub flat : List Placed → Tree
flat [] = End
flat (c ∷ cs) = Then c (flat cs)

pub paints_neither : (c : Command) → Paints c → bracket c ≡ Neither
paints_neither (Set c) h = refl
paints_neither (Put c) h = refl
paints_neither (PutRule a b) h = refl
paints_neither (Right q) h = refl
paints_neither (Down q) h = refl
paints_neither (Fnt k) h = refl
paints_neither (Xxx text) h = refl
paints_neither _ h = absurd h

levels_flat : (at : ℕ) (cs : List Command) → AllByRecursion Paints cs → levels (placed_from at cs) ≡ Some (flat (placed_from at cs), [])
levels_flat at [] h = refl
levels_flat at (c ∷ cs) h =
    let rest = levels_flat (at + length (shortest_whole c)) cs h.1 in
    let p : Placed = record { place = at; command = c } in
    λ i. level (paints_neither c h.0 i) p (rest i)

pub tree_flat : (at : ℕ) (cs : List Command) → AllByRecursion Paints cs → tree_of (placed_from at cs) ≡ Some (flat (placed_from at cs))
unfolding tree_of
tree_flat at cs h = ap whole_tree (levels_flat at cs h)

-- ---- outcomes, one after another

prepend_nil : (o : Outcome) → prepend [] o ≡ o
prepend_nil None = refl
prepend_nil (Some r) = refl

prepend_twice : (xs ys : List Mark) (o : Outcome) → prepend xs (prepend ys o) ≡ prepend (xs ++ ys) o
prepend_twice xs ys None = refl
prepend_twice xs ys (Some r) = ap (λ (l : List Mark). Some (l, r.1)) (sym (append_assoc xs ys r.0))

after_prepend : (xs : List Mark) (o : Outcome) (f : grid.State → Outcome) → prepend xs (after o f) ≡ after (prepend xs o) f
after_prepend xs None f = refl
after_prepend xs (Some r) f = prepend_twice xs r.0 (f r.1)

after_after : (o : Outcome) (f g : grid.State → Outcome) → after o (λ s. after (f s) g) ≡ after (after o f) g
after_after None f g = refl
after_after (Some r) f g = after_prepend r.0 (f r.1) g

after_same : (o : Outcome) (f g : grid.State → Outcome) → ((s : grid.State) → f s ≡ g s) → after o f ≡ after o g
after_same None f g h = refl
after_same (Some r) f g h = ap (prepend r.0) (h r.1)

pub flat_both : (m : Meaning) (cs ds : List Placed) (s : grid.State) → marks m (flat (cs ++ ds)) s ≡ after (marks m (flat cs) s) (marks m (flat ds))
unfolding marks
flat_both m [] ds s = sym (prepend_nil (marks m (flat ds) s))
flat_both m (c ∷ cs) ds s =
    after_same (step m c.command s) (marks m (flat (cs ++ ds))) (λ r. after (marks m (flat cs) r) (marks m (flat ds))) (flat_both m cs ds)
    ∙ after_after (step m c.command s) (marks m (flat cs)) (marks m (flat ds))

-- The commands lead from the state to this place and font, and give marks that in units are these.
pub record Reaches (m : Meaning) (other : FontSet) (at : ℕ) (cs : List Command) (s : grid.State) (h v : ℤ) (font : Option ℕ) (us : List UnitMark) : Type 0 where
  marked : List Mark
  state : grid.State
  ran : marks m (flat (placed_from at cs)) s ≡ Some (marked, state)
  h_is : state.place.h ≡ h
  v_is : state.place.v ≡ v
  font_is : state.font ≡ font
  units : units_of other marked ≡ us

reaches_none : (m : Meaning) (other : FontSet) (at : ℕ) (s : grid.State) (h v : ℤ) (font : Option ℕ) → s.place.h ≡ h → s.place.v ≡ v → s.font ≡ font → Reaches m other at [] s h v font []
unfolding marks
reaches_none m other at s h v font e f k = record { marked = []; state = s; ran = refl; h_is = e; v_is = f; font_is = k; units = refl }

reaches_one : (m : Meaning) (other : FontSet) (at : ℕ) (c : Command) (s r : grid.State) (ms : List Mark) (h v : ℤ) (font : Option ℕ) (us : List UnitMark) → step m c s ≡ Some (ms, r) → r.place.h ≡ h → r.place.v ≡ v → r.font ≡ font → units_of other ms ≡ us → Reaches m other at (c ∷ []) s h v font us
unfolding marks
reaches_one m other at c s r ms h v font us e f k l u = record {
  marked = ms;
  state = r;
  ran = ap (λ (o : Outcome). after o (marks m End)) e ∙ ap (λ (l : List Mark). Some (l, r)) (append-nil ms);
  h_is = f;
  v_is = k;
  font_is = l;
  units = u;
}

then_reaches : (m : Meaning) (other : FontSet) (at : ℕ) (xs ys : List Command) (s : grid.State) (h v h2 v2 : ℤ) (font font2 : Option ℕ) (us ws : List UnitMark) → Reaches m other at xs s h v font us
    → ((r : grid.State) → r.place.h ≡ h → r.place.v ≡ v → r.font ≡ font → Reaches m other (at + length (spelled xs)) ys r h2 v2 font2 ws) → Reaches m other at (xs ++ ys) s h2 v2 font2 (us ++ ws)
then_reaches m other at xs ys s h v h2 v2 font font2 us ws a next =
    let b = next a.state a.h_is a.v_is a.font_is in
    let ys_ : List Placed = placed_from (at + length (spelled xs)) ys in
    record {
      marked = a.marked ++ b.marked;
      state = b.state;
      ran =
          ap (λ (l : List Placed). marks m (flat l) s) (placed_both at xs ys) ∙ flat_both m (placed_from at xs) ys_ s
          ∙ ap (λ (o : Outcome). after o (marks m (flat ys_))) a.ran ∙ ap (prepend a.marked) b.ran;
      h_is = b.h_is;
      v_is = b.v_is;
      font_is = b.font_is;
      units = map-append (unit_of other) a.marked b.marked ∙ (λ i. a.units i ++ b.units i);
    }

-- ---- moves

plus_zero : (a : ℤ) → a ≡ a +ℤ pos 0
plus_zero a = omega (arith, ints)

right_to : (g : Grid) (space : ℤ) (p : Place) (q : ℤ) → Small (p.h +ℤ q) → (r : Place) × (right_by g space q p ≡ Some r) × (r.h ≡ p.h +ℤ q) × (r.v ≡ p.v)
unfolding right
right_to g space p q small =
    let r : Place = record p { h = p.h +ℤ q; hh = pixels_after g.across g.drift (is_large_across space q) (p.h +ℤ q) p.hh q } in
    (r, ap (λ (b : Bool). if b then Some r else None) (lt-ltb (unsigned_abs (p.h +ℤ q)) (2 ^ 31) small), refl, refl)

down_to : (g : Grid) (space : ℤ) (p : Place) (q : ℤ) → Small (p.v +ℤ q) → (r : Place) × (down_by g space q p ≡ Some r) × (r.v ≡ p.v +ℤ q) × (r.h ≡ p.h)
unfolding down
down_to g space p q small =
    let r : Place = record p { v = p.v +ℤ q; vv = pixels_after g.down g.drift (is_large_down space q) (p.v +ℤ q) p.vv q } in
    (r, ap (λ (b : Bool). if b then Some r else None) (lt-ltb (unsigned_abs (p.v +ℤ q)) (2 ^ 31) small), refl, refl)

-- the meaning of a page's commands in another set
abbrev pub page_meaning : Grid → FontSet → List Definition → Meaning
page_meaning g other ds = meaning g other most_nested (page_scope ds)

right_part : (g : Grid) (other : FontSet) (ds : List Definition) (at : ℕ) (q : ℤ) (s : grid.State) → Small (s.place.h +ℤ q) → Reaches (page_meaning g other ds) other at (part Right q) s (s.place.h +ℤ q) s.place.v s.font []
unfolding step
right_part g other ds at q s small = by (int_eq q (pos 0)) refl where
  by : (b : Bool) → int_eq q (pos 0) ≡ b → Reaches (page_meaning g other ds) other at (if b then [] else Right q ∷ []) s (s.place.h +ℤ q) s.place.v s.font []
  by true e =
      let zero_is : q ≡ pos 0 = (Decides-int_eq q (pos 0)).0 e in
      reaches_none (page_meaning g other ds) other at s (s.place.h +ℤ q) s.place.v s.font (plus_zero s.place.h ∙ ap (λ (z : ℤ). s.place.h +ℤ z) (sym zero_is)) refl refl
  by false e =
      let m : Meaning = page_meaning g other ds in
      let r = right_to g (m.space s.font) s.place q small in
      reaches_one m other at (Right q) s (record { place = r.0; font = s.font }) [] (s.place.h +ℤ q) s.place.v s.font [] (ap (at_place [] s.font) r.1) r.2 r.3 refl refl

down_part : (g : Grid) (other : FontSet) (ds : List Definition) (at : ℕ) (q : ℤ) (s : grid.State) → Small (s.place.v +ℤ q) → Reaches (page_meaning g other ds) other at (part Down q) s s.place.h (s.place.v +ℤ q) s.font []
unfolding step
down_part g other ds at q s small = by (int_eq q (pos 0)) refl where
  by : (b : Bool) → int_eq q (pos 0) ≡ b → Reaches (page_meaning g other ds) other at (if b then [] else Down q ∷ []) s s.place.h (s.place.v +ℤ q) s.font []
  by true e =
      let zero_is : q ≡ pos 0 = (Decides-int_eq q (pos 0)).0 e in
      reaches_none (page_meaning g other ds) other at s s.place.h (s.place.v +ℤ q) s.font refl (plus_zero s.place.v ∙ ap (λ (z : ℤ). s.place.v +ℤ z) (sym zero_is)) refl
  by false e =
      let m : Meaning = page_meaning g other ds in
      let r = down_to g (m.space s.font) s.place q small in
      reaches_one m other at (Down q) s (record { place = r.0; font = s.font }) [] s.place.h (s.place.v +ℤ q) s.font [] (ap (at_place [] s.font) r.1) r.3 r.2 refl refl

-- half of a way within the limits is within them
first_within : (a b : ℤ) → Small a → Small b → Small (a +ℤ first_part (b -ℤ a))
first_within a b f k = grind (arith, ints)

back_again : (a b c : ℤ) → (a +ℤ c) +ℤ ((b -ℤ a) -ℤ c) ≡ b
back_again a b c = omega (arith, ints)

move_right : (g : Grid) (other : FontSet) (ds : List Definition) (at : ℕ) (a b : ℤ) (s : grid.State) → s.place.h ≡ a → Small a → Small b → Reaches (page_meaning g other ds) other at (moves Right (b -ℤ a)) s b s.place.v s.font []
move_right g other ds at a b s here f k =
    let m : Meaning = page_meaning g other ds in
    let q : ℤ = first_part (b -ℤ a) in
    let rest : ℤ = (b -ℤ a) -ℤ q in
    let there : s.place.h +ℤ q ≡ a +ℤ q = ap (λ (z : ℤ). z +ℤ q) here in
    let within : Small (s.place.h +ℤ q) = subst Small (sym there) (first_within a b f k) in
    then_reaches m other at (part Right q) (part Right rest) s (s.place.h +ℤ q) s.place.v b s.place.v s.font s.font [] [] (right_part g other ds at q s within)
    (λ r e1 e2 e3.
    let ends : r.place.h +ℤ rest ≡ b = ap (λ (z : ℤ). z +ℤ rest) (e1 ∙ there) ∙ back_again a b q in
    let small : Small (r.place.h +ℤ rest) = subst Small (sym ends) k in
    let step_ = right_part g other ds (at + length (spelled (part Right q))) rest r small in
    record { marked = step_.marked; state = step_.state; ran = step_.ran; h_is = step_.h_is ∙ ends; v_is = step_.v_is ∙ e2; font_is = step_.font_is ∙ e3; units = step_.units })

move_down : (g : Grid) (other : FontSet) (ds : List Definition) (at : ℕ) (a b : ℤ) (s : grid.State) → s.place.v ≡ a → Small a → Small b → Reaches (page_meaning g other ds) other at (moves Down (b -ℤ a)) s s.place.h b s.font []
move_down g other ds at a b s here f k =
    let m : Meaning = page_meaning g other ds in
    let q : ℤ = first_part (b -ℤ a) in
    let rest : ℤ = (b -ℤ a) -ℤ q in
    let there : s.place.v +ℤ q ≡ a +ℤ q = ap (λ (z : ℤ). z +ℤ q) here in
    let within : Small (s.place.v +ℤ q) = subst Small (sym there) (first_within a b f k) in
    then_reaches m other at (part Down q) (part Down rest) s s.place.h (s.place.v +ℤ q) s.place.h b s.font s.font [] [] (down_part g other ds at q s within)
    (λ r e1 e2 e3.
    let ends : r.place.v +ℤ rest ≡ b = ap (λ (z : ℤ). z +ℤ rest) (e2 ∙ there) ∙ back_again a b q in
    let small : Small (r.place.v +ℤ rest) = subst Small (sym ends) k in
    let step_ = down_part g other ds (at + length (spelled (part Down q))) rest r small in
    record { marked = step_.marked; state = step_.state; ran = step_.ran; h_is = step_.h_is ∙ e1; v_is = step_.v_is ∙ ends; font_is = step_.font_is ∙ e3; units = step_.units })

-- to a place
go : (g : Grid) (other : FontSet) (ds : List Definition) (at : ℕ) (p : Pen) (h v : ℤ) (s : grid.State) → s.place.h ≡ p.h → s.place.v ≡ p.v → Small p.h → Small p.v → Small h → Small v → Reaches (page_meaning g other ds) other at (way p h v) s h v s.font []
go g other ds at p h v s eh ev fh fv kh kv =
    let m : Meaning = page_meaning g other ds in
    then_reaches m other at (moves Right (h -ℤ p.h)) (moves Down (v -ℤ p.v)) s h s.place.v h v s.font s.font [] [] (move_right g other ds at p.h h s eh fh kh)
    (λ r e1 e2 e3.
    let step_ = move_down g other ds (at + length (spelled (moves Right (h -ℤ p.h)))) p.v v r (e2 ∙ ev) fv kv in
    record { marked = step_.marked; state = step_.state; ran = step_.ran; h_is = step_.h_is ∙ e1; v_is = step_.v_is; font_is = step_.font_is ∙ e3; units = step_.units })

-- ---- fonts

differs : {P : Type 0} (b : Bool) → (b ≡ true → P) → (P → ⊥) → b ≡ false
differs true d f = absurd (f (d refl))
differs false d f = refl

skip : (b : Bool) (n : ℕ) (key : Key) (r : ℕ) (rest : ℕ → List Definition) (o : Option Key) → ((m : ℕ) → key_in (page_fonts (rest m)) (pos (m + r)) ≡ o) → key_in (page_fonts (defs_put n key b (rest (n + one_where b)))) (pos (n + (one_where b + r))) ≡ o
unfolding key_in page_fonts
skip true n key r rest o h =
    let k : ℤ = pos (n + (1 + r)) in
    let other : int_eq (pos n) k ≡ false = differs (int_eq (pos n) k) ((Decides-int_eq (pos n) k).0) (λ e. let bad : n ≡ n + (1 + r) = ap unsigned_abs e in omega (arith, bad)) in
    let sum : n + (1 + r) ≡ (n + 1) + r = omega arith in
    ap (λ (b : Bool). if b then Some key else key_in (page_fonts (rest (n + 1))) k) other ∙ ap (λ (j : ℕ). key_in (page_fonts (rest (n + 1))) (pos j)) sum ∙ h (n + 1)
skip false n key r rest o h =
    let sum : n + (0 + r) ≡ (n + 0) + r = omega arith in
    ap (λ (j : ℕ). key_in (page_fonts (rest (n + 0))) (pos j)) sum ∙ h (n + 0)

-- the number of a font of the copy names the font's key
key_numbered : (es : List Entry) (n id : ℕ) (e : Entry) → slice_get es id ≡ Some e → is_real e.state ≡ true → key_in (page_fonts (defs_from n es)) (pos (n + reals_in (take id es))) ≡ Some e.key
unfolding key_in page_fonts
key_numbered [] n id e at real = absurd (cc)
key_numbered (x ∷ es) n zero e at real =
    let same : x ≡ e = cc in
    let t : is_real x.state ≡ true = ap (λ (y : Entry). is_real y.state) same ∙ real in
    let none : n + 0 ≡ n = omega arith in
    let here : key_in (page_fonts (defs_put n x.key true (defs_from (n + one_where (is_real x.state)) es))) (pos (n + 0)) ≡ Some x.key =
    ap (λ (b : Bool). if b then Some x.key else key_in (page_fonts (defs_from (n + one_where (is_real x.state)) es)) (pos (n + 0))) ((Decides-int_eq (pos n) (pos (n + 0))).1 (ap (λ (k : ℕ). pos k) (sym none))) in
    subst (λ (b : Bool). key_in (page_fonts (defs_put n x.key b (defs_from (n + one_where (is_real x.state)) es))) (pos (n + 0)) ≡ Some x.key) (sym t) here ∙ ap (λ (y : Entry). Some y.key) same
key_numbered (x ∷ es) n (suc id) e at real =
    skip (is_real x.state) n x.key (reals_in (take id es)) (λ m. defs_from m es) (Some e.key) (λ m. key_numbered es m id e at real)

entry_there : (es : List Entry) (k : ℕ) → k < length es → (e : Entry) × (slice_get es k ≡ Some e)
entry_there [] k h = absurd (omega arith)
entry_there (e ∷ es) zero h = (e, refl)
entry_there (e ∷ es) (suc k) h = entry_there es k (omega arith)

selects : (set other : FontSet) (id : ℕ) → id < length set.fonts → is_real (state_at set id) ≡ true → (v : Serving set other id) → select other (page_scope (defs_from 0 set.fonts)) (pos (number_of set id)) ≡ Some v.number
unfolding select key_at state_at
selects set other id given real v =
    let e = entry_there set.fonts id given in
    let key : entry_key (slice_get set.fonts id) ≡ (e.0).key = ap entry_key e.1 in
    let is : is_real (e.0).state ≡ true = ap (λ (o : Option Entry). is_real (state_in o)) (sym e.1) ∙ real in
    let none : number_of set id ≡ 0 + number_of set id = omega arith in
    ap (λ (n : ℕ). id_of other (key_in (page_fonts (defs_from 0 set.fonts)) (pos n))) none
    ∙ ap (id_of other) (key_numbered set.fonts 0 id e.0 e.1 is) ∙ ap (λ (k : Key). place_of other.fonts k) (sym key) ∙ v.known

shown_real : (run : Program → Place → Outcome) (g : Grid) (id code : ℕ) (p : Place) (st : State) (program : Option Program) (o : Option ℤ) (width : ℤ) → is_real st ≡ true → o ≡ Some width → shown_in run g id code p st program o ≡ Some (glyph_at g id code p width ∷ [], width)
shown_real run g id code p State.Known program o width real is = absurd (cc)
shown_real run g id code p (State.Real tfm pk) program o width real is = ap (λ (w : Option ℤ). shown_in run g id code p (State.Real tfm pk) program w) is
shown_real run g id code p (State.Virtual tfm vf) program o width real is = absurd (cc)

char_shown : (g : Grid) (other : FontSet) (ds : List Definition) (j code : ℕ) (p : Place) (width : ℤ) → is_real (state_at other j) ≡ true → width_at other j code ≡ Some width → (page_meaning g other ds).char (Some j) (pos code) p ≡ Some (glyph_at g j code p width ∷ [], width)
unfolding chars
char_shown g other ds j code p width real is =
    shown_real (λ program q. first_there other program.first (frame_by g other (chars g other 15) program q)) g j code p (state_at other j) (program_at other j code) (width_at other j code) width real is

-- the selected font is the one that the number of the copy's font names
abbrev FontIs : Meaning → Option ℕ → Option ℕ → Type 0
FontIs m None o = Unit {0}
FontIs m (Some n) o = o ≡ m.select (pos n)

choose : (g : Grid) (other : FontSet) (ds : List Definition) (at : ℕ) (f : Option ℕ) (n j : ℕ) (s : grid.State) → FontIs (page_meaning g other ds) f s.font → (page_meaning g other ds).select (pos n) ≡ Some j → Reaches (page_meaning g other ds) other at (selecting f n) s s.place.h s.place.v (Some j) []
unfolding step
choose g other ds at None n j s is named = reaches_one (page_meaning g other ds) other at (Fnt (pos n)) s (record { place = s.place; font = Some j }) [] s.place.h s.place.v (Some j) [] (ap (in_font s) named) refl refl refl refl
choose g other ds at (Some k) n j s is named = by (nat_eq k n) refl where
  by : (b : Bool) → nat_eq k n ≡ b → Reaches (page_meaning g other ds) other at (if b then [] else Fnt (pos n) ∷ []) s s.place.h s.place.v (Some j) []
  by true e = reaches_none (page_meaning g other ds) other at s s.place.h s.place.v (Some j) refl refl (is ∙ ap (λ (i : ℕ). (page_meaning g other ds).select (pos i)) ((Decides-eqb k n).0 e) ∙ named)
  by false e = reaches_one (page_meaning g other ds) other at (Fnt (pos n)) s (record { place = s.place; font = Some j }) [] s.place.h s.place.v (Some j) [] (ap (in_font s) named) refl refl refl refl

past : (g : Grid) (width : ℤ) (p : Place) → fits (p.h +ℤ width) ≡ true → (r : Place) × (past_char g width p ≡ Some r) × (r.h ≡ p.h +ℤ width) × (r.v ≡ p.v)
unfolding advanced
past g width p small =
    let r : Place = record p { h = p.h +ℤ width; hh = pixels_behind g.across g.drift (p.h +ℤ width) p.hh (rounded g.across width) } in
    (r, ap (λ (b : Bool). if b then Some r else None) small, refl, refl)

char_done : (g : Grid) (other : FontSet) (ds : List Definition) (at j code : ℕ) (h v width : ℤ) (key : Key) (s : grid.State) → s.place.h ≡ h → s.place.v ≡ v → s.font ≡ Some j → is_real (state_at other j) ≡ true → width_at other j code ≡ Some width → key_at other j ≡ key
    → Reaches (page_meaning g other ds) other at (char_command (fits (h +ℤ width)) code ∷ []) s (if fits (h +ℤ width) then h +ℤ width else h) v (Some j) (UnitGlyph key code h v width ∷ [])
unfolding step
char_done g other ds at j code h v width key s eh ev ef real is same = by (fits (h +ℤ width)) refl where
  by : (b : Bool) → fits (h +ℤ width) ≡ b → Reaches (page_meaning g other ds) other at (char_command b code ∷ []) s (if b then h +ℤ width else h) v (Some j) (UnitGlyph key code h v width ∷ [])
  by true e =
      let m : Meaning = page_meaning g other ds in
      let mark : Mark = glyph_at g j code s.place width in
      let shown_ : m.char s.font (pos code) s.place ≡ Some (mark ∷ [], width) = ap (λ (f : Option ℕ). m.char f (pos code) s.place) ef ∙ char_shown g other ds j code s.place width real is in
      let small : fits (s.place.h +ℤ width) ≡ true = ap (λ (z : ℤ). fits (z +ℤ width)) eh ∙ e in
      let r = past g width s.place small in
      reaches_one m other at (Set (pos code)) s (record { place = r.0; font = s.font }) (mark ∷ []) (h +ℤ width) v (Some j) (UnitGlyph key code h v width ∷ [])
      (ap (set_char g s) shown_ ∙ ap (at_place (mark ∷ []) s.font) r.1) (r.2 ∙ ap (λ (z : ℤ). z +ℤ width) eh) (r.3 ∙ ev) ef (λ i. UnitGlyph (same i) code (eh i) (ev i) width ∷ [])
  by false e =
      let m : Meaning = page_meaning g other ds in
      let mark : Mark = glyph_at g j code s.place width in
      let shown_ : m.char s.font (pos code) s.place ≡ Some (mark ∷ [], width) = ap (λ (f : Option ℕ). m.char f (pos code) s.place) ef ∙ char_shown g other ds j code s.place width real is in
      reaches_one m other at (Put (pos code)) s s (mark ∷ []) h v (Some j) (UnitGlyph key code h v width ∷ [])
      (ap (put_char s) shown_) eh ev ef (λ i. UnitGlyph (same i) code (eh i) (ev i) width ∷ [])

-- ---- marks

record Stands (m : Meaning) (p : Pen) (s : grid.State) : Type 0 where
  h : s.place.h ≡ p.h
  v : s.place.v ≡ p.v
  font : FontIs m p.font s.font
  near_h : Small p.h
  near_v : Small p.v

-- the commands of a mark, and where they lead
record Goes (m : Meaning) (other : FontSet) (at : ℕ) (cs : List Command) (s : grid.State) (p : Pen) (us : List UnitMark) : Type 0 where
  font : Option ℕ
  reaches : Reaches m other at cs s p.h p.v font us
  named : FontIs m p.font font
  near_h : Small p.h
  near_v : Small p.v

small_if : (z h : ℤ) (b : Bool) → fits z ≡ b → Small h → Small (if b then z else h)
small_if z h true e f = ltb-true (unsigned_abs z) (2 ^ 31) e
small_if z h false e f = f

mark_goes : (set other : FontSet) (g : Grid) (at : ℕ) (p : Pen) (m : Mark) (s : grid.State) → Serves set other → Stands (page_meaning g other (defs_from 0 set.fonts)) p s → IsPut m → IsOf set m
    → Goes (page_meaning g other (defs_from 0 set.fonts)) other at (mark_commands set p m) s (mark_pen set p m) (unit_of set m ∷ [])
unfolding step
mark_goes set other g at p (OfGlyph c) s serves stands put of =
    let ds : List Definition = defs_from 0 set.fonts in
    let m : Meaning = page_meaning g other ds in
    let n : ℕ = number_of set c.font in
    let v : Serving set other c.font = serves c.font of.0 of.1 in
    let named : m.select (pos n) ≡ Some v.number = selects set other c.font of.0 of.1 v in
    let away : List Command = way p c.h c.v in
    let select_ : List Command = selecting p.font n in
    let show_ : List Command = char_command (fits (c.h +ℤ c.width)) c.code ∷ [] in
    let end : ℤ = if fits (c.h +ℤ c.width) then c.h +ℤ c.width else c.h in
    record {
      font = Some v.number;
      reaches =
          then_reaches m other at away (select_ ++ show_) s c.h c.v end c.v s.font (Some v.number) [] (UnitGlyph (key_at set c.font) c.code c.h c.v c.width ∷ []) (go g other ds at p c.h c.v s stands.h stands.v stands.near_h stands.near_v put.0.2 put.0.3)
          (λ r e1 e2 e3.
          let here : FontIs m p.font r.font = subst (FontIs m p.font) (sym e3) stands.font in
          then_reaches m other (at + length (spelled away)) select_ show_ r r.place.h r.place.v end c.v (Some v.number) (Some v.number) [] (UnitGlyph (key_at set c.font) c.code c.h c.v c.width ∷ []) (choose g other ds (at + length (spelled away)) p.font n v.number r here named)
          (λ q f1 f2 f3. char_done g other ds ((at + length (spelled away)) + length (spelled select_)) v.number c.code c.h c.v c.width (key_at set c.font) q (f1 ∙ e1) (f2 ∙ e2) f3 v.real (v.widths c.code ∙ of.2) v.key));
      named = sym named;
      near_h = small_if (c.h +ℤ c.width) c.h (fits (c.h +ℤ c.width)) refl put.0.2;
      near_v = put.0.3;
    }
mark_goes set other g at p (OfRule r) s serves stands put of =
    let ds : List Definition = defs_from 0 set.fonts in
    let m : Meaning = page_meaning g other ds in
    let away : List Command = way p r.h r.v in
    let sized : (is_size r.a && is_size r.b) ≡ true = λ i. lt-ltb (unsigned_abs r.a) (2 ^ 31) put.6 i && lt-ltb (unsigned_abs r.b) (2 ^ 31) put.7 i in
    let painted : (int_lt (pos 0) r.a && int_lt (pos 0) r.b) ≡ true = of in
    record {
      font = s.font;
      reaches =
          then_reaches m other at away (PutRule r.a r.b ∷ []) s r.h r.v r.h r.v s.font s.font [] (UnitRule r.h r.v r.a r.b ∷ []) (go g other ds at p r.h r.v s stands.h stands.v stands.near_h stands.near_v put.4 put.5)
          (λ q e1 e2 e3.
          let mark : Mark = rule_at g q.place r.a r.b in
          reaches_one m other (at + length (spelled away)) (PutRule r.a r.b) q q (mark ∷ []) r.h r.v s.font (UnitRule r.h r.v r.a r.b ∷ [])
          (ap (λ (b : Bool). if b then Some (rule_marks g q.place r.a r.b, q) else None) sized ∙ ap (λ (b : Bool). Some ((if b then mark ∷ [] else []), q)) painted) e1 e2 e3
          (λ i. UnitRule (e1 i) (e2 i) r.a r.b ∷ []));
      named = stands.font;
      near_h = put.4;
      near_v = put.5;
    }
mark_goes set other g at p (OfSpecial t) s serves stands put of =
    let ds : List Definition = defs_from 0 set.fonts in
    let m : Meaning = page_meaning g other ds in
    let away : List Command = way p t.h t.v in
    record {
      font = s.font;
      reaches =
          then_reaches m other at away (Xxx t.bytes ∷ []) s t.h t.v t.h t.v s.font s.font [] (UnitSpecial t.bytes t.h t.v ∷ []) (go g other ds at p t.h t.v s stands.h stands.v stands.near_h stands.near_v put.3 put.4)
          (λ q e1 e2 e3.
          reaches_one m other (at + length (spelled away)) (Xxx t.bytes) q q (special_at q.place t.bytes ∷ []) t.h t.v s.font (UnitSpecial t.bytes t.h t.v ∷ []) refl e1 e2 e3
          (λ i. UnitSpecial t.bytes (e1 i) (e2 i) ∷ []));
      named = stands.font;
      near_h = put.3;
      near_v = put.4;
    }

record Through (m : Meaning) (other : FontSet) (at : ℕ) (cs : List Command) (s : grid.State) (us : List UnitMark) : Type 0 where
  marked : List Mark
  state : grid.State
  ran : marks m (flat (placed_from at cs)) s ≡ Some (marked, state)
  units : units_of other marked ≡ us

marks_go : (set other : FontSet) (g : Grid) (at : ℕ) (p : Pen) (ms : List Mark) (s : grid.State) → Serves set other → Stands (page_meaning g other (defs_from 0 set.fonts)) p s → AllByRecursion IsPut ms → AllByRecursion (IsOf set) ms
    → Through (page_meaning g other (defs_from 0 set.fonts)) other at (marks_commands set p ms) s (units_of set ms)
unfolding marks
marks_go set other g at p [] s serves stands put of = record { marked = []; state = s; ran = refl; units = refl }
marks_go set other g at p (x ∷ ms) s serves stands put of =
    let m : Meaning = page_meaning g other (defs_from 0 set.fonts) in
    let here = mark_goes set other g at p x s serves stands put.0 of.0 in
    let a = here.reaches in
    let xs : List Command = mark_commands set p x in
    let ys : List Command = marks_commands set (mark_pen set p x) ms in
    let next : ℕ = at + length (spelled xs) in
    let then_ : Stands m (mark_pen set p x) a.state = record { h = a.h_is; v = a.v_is; font = subst (FontIs m (mark_pen set p x).font) (sym a.font_is) here.named; near_h = here.near_h; near_v = here.near_v } in
    let b = marks_go set other g next (mark_pen set p x) ms a.state serves then_ put.1 of.1 in
    record {
      marked = a.marked ++ b.marked;
      state = b.state;
      ran =
          ap (λ (l : List Placed). marks m (flat l) s) (placed_both at xs ys) ∙ flat_both m (placed_from at xs) (placed_from next ys) s
          ∙ ap (λ (o : Outcome). after o (marks m (flat (placed_from next ys)))) a.ran ∙ ap (prepend a.marked) b.ran;
      units = map-append (unit_of other) a.marked b.marked ∙ (λ i. a.units i ++ b.units i);
    }

-- ---- pages

pub page_kept : (set other : FontSet) (g : Grid) (first : ℕ) (p : Page) → Serves set other → AllByRecursion IsPut p.marks → AllByRecursion (IsOf set) p.marks
    → HasUnits other (units_of set p.marks) (page_marks g other (defs_from 0 set.fonts) (placed_from first (marks_commands set page_pen p.marks)))
page_kept set other g first p serves put of =
    let ds : List Definition = defs_from 0 set.fonts in
    let m : Meaning = page_meaning g other ds in
    let cs : List Command = marks_commands set page_pen p.marks in
    let s : grid.State = start_in other (page_program ds (placed_from first cs)) origin in
    let stands : Stands m page_pen s = record { h = refl; v = refl; font = tt; near_h = omega arith; near_v = omega arith } in
    let t = marks_go set other g first page_pen p.marks s serves stands put of in
    let is : page_marks g other ds (placed_from first cs) ≡ Some (t.marked, t.state) = ap (λ (o : Option Tree). marks_of m o s) (tree_flat first cs (marks_inner set page_pen p.marks)) ∙ t.ran in
    subst (HasUnits other (units_of set p.marks)) (sym is) t.units

pages_kept : (set other : FontSet) (g : Grid) (last : ℤ) (at : ℕ) (ps : List Page) → Serves set other → AllByRecursion IsPutPage ps → AreOf set ps → SamePages set other g (defs_from 0 set.fonts) ps (pages_of (paged set last at ps))
pages_kept set other g last at [] serves put of = tt
pages_kept set other g last at (p ∷ ps) serves put of = (
  refl,
  page_kept set other g (at + length (shortest_whole (Bop p.counts last))) p serves (put.0).marks of.0,
  pages_kept set other g (pos at) (at + length (spelled (page_commands set last p))) ps serves put.1 of.1,
)

pub copy_keeps : CopyKeepsPages
copy_keeps w ps put of other g serves =
    let set : FontSet = w.set in
    let start : ℕ = pages_place w in
    let items : List Item = paged set (negsuc 0) start ps in
    let h : ℕ = 0 + length (shortest_whole (Pre (preamble w.head w.mag))) in
    let behind : ℕ = post_place w ps + length (shortest_whole (post_command w ps)) in
    let kept = pages_kept set other g (negsuc 0) start ps serves put.pages of in
    subst (λ (ds : List Definition). SamePages set other g ds ps (document_of (file_of w ps)).pages) (sym (defs_are behind 0 set.fonts))
    (subst (λ (qs : List PageOf). SamePages set other g (defs_from 0 set.fonts) ps qs) (sym (pages_of_fillers h (definitions set) items)) kept)
