-- That a cut copy holds its first pages.
use Rattle.std.proofs.Common.{◌≡◌, ◌+◌, ◌⊎◌, ℕ, ℤ, pos, negsuc, Bool, true, false, List, [], ◌∷◌, ◌++◌, length, take, drop, Option, Some, None, refl, sym, ap, subst, ◌∙◌, arith, inl, inr, append_assoc}
use Rattle.std.specs.List.{AllByRecursion}
use Rattle.std.proofs.lemmas.List.{append-nil, append_cancel_left, map-append}
use Rattle.positions.specs.Place.{origin}
use Rattle.dvi_ops.specs.Command.{Command, Definition, Postamble}
use Rattle.dvi_ops.specs.Command.Command.{Set, Put, PutRule, Right, Down, Fnt, Xxx, Bop, Eop, Pre, Post, PostPost, FntDef}
use Rattle.dvi_ops.specs.Laws.{OneSpelling, ShortestSpelling}
use Rattle.dvi_ops.specs.Placed.{Placed, Lexes}
use Rattle.dvi_ops.specs.Shortest.{shortest_whole}
use Rattle.dvi_doc.specs.Document.{definitions_of, placed, put_definition as put_found}
use Rattle.font_set.specs.Key.{Key}
use Rattle.font_set.specs.Fonts.{Entry, FontSet}
use Rattle.font_set.specs.Programs.{first_font, page_program}
use Rattle.font_set.specs.Tree.{Tree, level, levels, tree_of, whole_tree}
use Rattle.vf_expand.specs.Grid as grid
use Rattle.vf_expand.specs.Grid.{Grid}
use Rattle.vf_expand.specs.Meaning.{Meaning}
use Rattle.vf_expand.specs.Marks.{Outcome, after, marks, marks_of, prepend}
use Rattle.vf_expand.specs.Page.{page_marks}
use Rattle.vf_expand.specs.Pages.{start_in}
use Rattle.dvicopy_out.specs.AsDocument.{copy_commands, pages_commands, pages_place, placed_from, post_place}
use Rattle.dvicopy_out.specs.Copies.{Page, back_commands, body, file, filling, front_commands, last_bop, page_commands, postamble, preamble}
use Rattle.dvicopy_out.specs.Cuts.{BeginsUnits, CutsHoldFirstPages, Found, Finds, HoldsFirst, find, fonts_at, fonts_before, found_at}
use Rattle.dvicopy_out.specs.Marked.{marks_commands, page_pen}
use Rattle.dvicopy_out.specs.Numbered.{definitions, definitions_from, is_real, one_where, put_definition}
use Rattle.dvicopy_out.specs.Spelled.{spelled}
use Rattle.dvicopy_out.specs.Units.{AreOf, HasUnits, IsOf, Serves, UnitMark, unit_of, units_of}
use Rattle.dvicopy_out.specs.Writable.{IsPutPage}
use Rattle.dvicopy_out.proofs.Documented.{Paints, body_is, defs_are, defs_from, marks_inner, page_placed_from, placed_both, spells}
use Rattle.dvicopy_out.proofs.Rows.{take_rest}
use Rattle.dvicopy_out.proofs.Same.{flat, flat_both, page_kept, page_meaning, paints_neither}
use Rattle.dvicopy_out.proofs.Spellable.{spellable}

-- ---- lists with a common end

-- two fronts of one list: the first is shorter, or the second is
pub parted : {X : Type 0} (xs a ys b : List X) → xs ++ a ≡ ys ++ b → ((m : List X) × (xs ++ m ≡ ys)) ⊎ ((m : List X) × (xs ≡ ys ++ m) × (m ++ a ≡ b))
parted [] a ys b e = inl (ys, refl)
parted (x ∷ xs) a [] b e = inr (x ∷ xs, refl, e)
parted {X} (x ∷ xs) a (y ∷ ys) b e = by (parted xs a ys b rest)
  where
    head : x ≡ y
    head = cc

    rest : xs ++ a ≡ ys ++ b
    rest = cc

    by : ((m : List X) × (xs ++ m ≡ ys)) ⊎ ((m : List X) × (xs ≡ ys ++ m) × (m ++ a ≡ b)) → ((m : List X) × (x ∷ (xs ++ m) ≡ y ∷ ys)) ⊎ ((m : List X) × (x ∷ xs ≡ y ∷ (ys ++ m)) × (m ++ a ≡ b))
    by (inl h) = inl (h.0, λ i. head i ∷ h.1 i)
    by (inr h) = inr (h.0, (λ i. head i ∷ h.1 i), h.2)

take_drop : (n : ℕ) (xs : List ℕ) → take n xs ++ drop n xs ≡ xs
take_drop n xs = take_rest xs n

-- commands that are read from one beginning are the same as long as both go on
common : OneSpelling → (at : ℕ) (xs ys a b : List ℕ) (cs ds : List Placed) → Lexes at xs cs → Lexes at ys ds → xs ++ a ≡ ys ++ b → (later : List Placed) × (extra : List Placed) × (cs ++ later ≡ ds ++ extra)
common law at xs ys a b [] ds h k e = (ds, [], sym (append-nil ds))
common law at xs ys a b (c ∷ cs) [] h k e = ([], c ∷ cs, append-nil (c ∷ cs))
common law at xs ys a b (c ∷ cs) (d ∷ ds) (p, f, r, split, spell, rest) (q, f2, r2, split2, spell2, rest2) e =
    let whole : f ++ (r ++ a) ≡ f2 ++ (r2 ++ b) =
    sym (append_assoc f r a) ∙ ap (λ (l : List ℕ). l ++ a) (sym split) ∙ e ∙ ap (λ (l : List ℕ). l ++ b) split2 ∙ append_assoc f2 r2 b in
    let one = law f f2 c.command d.command (r ++ a) (r2 ++ b) spell spell2 whole in
    let left : r ++ a ≡ r2 ++ b = append_cancel_left f (r ++ a) (r2 ++ b) (whole ∙ ap (λ (l : List ℕ). l ++ (r2 ++ b)) (sym one.0)) in
    let next : Lexes (at + length f) r2 ds = subst (λ (l : List ℕ). Lexes (at + length l) r2 ds) (sym one.0) rest2 in
    let t = common law (at + length f) r r2 a b cs ds rest next left in
    let place : c.place ≡ d.place = p ∙ sym q in
    (t.0, t.1, λ i. record { place = place i; command = one.1 i } ∷ t.2 i)

-- ---- commands between pages

-- a command of the front
abbrev Fronts : Command → Type 0
Fronts (Pre head) = Unit {0}
Fronts (FntDef d) = Unit {0}
Fronts _ = ⊥

put_fronts : (n : ℕ) (key : Key) (b : Bool) (cs : List Command) → AllByRecursion Fronts cs → AllByRecursion Fronts (put_definition n key b cs)
put_fronts n key true cs h = (tt, h)
put_fronts n key false cs h = h

defs_fronts : (n : ℕ) (es : List Entry) → AllByRecursion Fronts (definitions_from n es)
defs_fronts n [] = tt
defs_fronts n (e ∷ es) = put_fronts n e.key (is_real e.state) (definitions_from (n + one_where (is_real e.state)) es) (defs_fronts (n + one_where (is_real e.state)) es)

abbrev AllFronts : List Placed → Type 0
AllFronts cs = AllByRecursion (λ (c : Placed). Fronts c.command) cs

placed_fronts : (at : ℕ) (cs : List Command) → AllByRecursion Fronts cs → AllFronts (placed_from at cs)
placed_fronts at [] h = tt
placed_fronts at (c ∷ cs) h = (h.0, placed_fronts (at + length (shortest_whole c)) cs h.1)

left_of : {X : Type 0} (P : X → Type 0) (xs ys : List X) → AllByRecursion P (xs ++ ys) → AllByRecursion P xs
left_of P [] ys h = tt
left_of P (x ∷ xs) ys h = (h.0, left_of P xs ys h.1)

right_of : {X : Type 0} (P : X → Type 0) (xs ys : List X) → AllByRecursion P (xs ++ ys) → AllByRecursion P ys
right_of P [] ys h = h
right_of P (x ∷ xs) ys h = right_of P xs ys h.1

front_step : (c : Command) (p : Placed) (next : Option Found → Finds) → Fronts c → found_at c p None next ≡ next None
front_step (Pre head) p next h = refl
front_step (FntDef d) p next h = refl
front_step _ p next h = absurd h

find_front : (xs m : List Placed) → AllFronts xs → find (xs ++ m) None ≡ find m None
find_front [] m h = refl
find_front (c ∷ xs) m h = front_step c.command c (find (xs ++ m)) h.0 ∙ find_front xs m h.1

find_only : (xs : List Placed) → AllFronts xs → find xs None ≡ record { complete = []; unfinished = None }
find_only xs h = ap (λ (l : List Placed). find l None) (sym (append-nil xs)) ∙ find_front xs [] h

bop_fonts : (c : Command) (ds : List Definition) (counts : List ℤ) (back : ℤ) → c ≡ Bop counts back → fonts_at c ds ≡ []
bop_fonts c ds counts back e = ap (λ (x : Command). fonts_at x ds) e

front_fonts : (c : Command) (ds es : List Definition) → Fronts c → ds ≡ es → fonts_at c ds ≡ put_found c es
front_fonts (Pre head) ds es h e = e
front_fonts (FntDef d) ds es h e = ap (λ (l : List Definition). d ∷ l) e
front_fonts _ ds es h e = absurd h

fonts_front : (xs m : List Placed) (b : Placed) (counts : List ℤ) (back : ℤ) → AllFronts xs → b.command ≡ Bop counts back → fonts_before (xs ++ b ∷ m) ≡ definitions_of xs
fonts_front [] m b counts back h e = bop_fonts b.command (fonts_before m) counts back e
fonts_front (c ∷ xs) m b counts back h e = front_fonts c.command (fonts_before (xs ++ b ∷ m)) (definitions_of xs) h.0 (fonts_front xs m b counts back h.1 e)

-- ---- commands of a page

abbrev AllPaint : List Placed → Type 0
AllPaint cs = AllByRecursion (λ (c : Placed). Paints c.command) cs

placed_paint : (at : ℕ) (cs : List Command) → AllByRecursion Paints cs → AllPaint (placed_from at cs)
placed_paint at [] h = tt
placed_paint at (c ∷ cs) h = (h.0, placed_paint (at + length (shortest_whole c)) cs h.1)

abbrev with_ : Found → List Placed → Found
with_ q cs = record { counts = q.counts; commands = q.commands ++ cs }

paint_step : (c : Command) (p : Placed) (q : Found) (next : Option Found → Finds) → Paints c → found_at c p (Some q) next ≡ next (Some (with_ q (p ∷ [])))
paint_step (Set c) p q next h = refl
paint_step (Put c) p q next h = refl
paint_step (PutRule a b) p q next h = refl
paint_step (Right d) p q next h = refl
paint_step (Down d) p q next h = refl
paint_step (Fnt k) p q next h = refl
paint_step (Xxx text) p q next h = refl
paint_step _ p q next h = absurd h

find_paint : (xs m : List Placed) (q : Found) → AllPaint xs → find (xs ++ m) (Some q) ≡ find m (Some (with_ q xs))
find_paint [] m q h = ap (λ (l : List Placed). find m (Some (record { counts = q.counts; commands = l }))) (sym (append-nil q.commands))
find_paint (c ∷ xs) m q h =
    paint_step c.command c q (find (xs ++ m)) h.0 ∙ find_paint xs m (with_ q (c ∷ [])) h.1
    ∙ ap (λ (l : List Placed). find m (Some (record { counts = q.counts; commands = l }))) (append_assoc q.commands (c ∷ []) xs)

-- ---- marks of a front of a page

levels_paint : (cs : List Placed) → AllPaint cs → levels cs ≡ Some (flat cs, [])
levels_paint [] h = refl
levels_paint (c ∷ cs) h = λ i. level (paints_neither c.command h.0 i) c (levels_paint cs h.1 i)

tree_paint : (cs : List Placed) → AllPaint cs → tree_of cs ≡ Some (flat cs)
unfolding tree_of
tree_paint cs h = ap whole_tree (levels_paint cs h)

marks_paint : (g : Grid) (other : FontSet) (ds : List Definition) (cs : List Placed) → AllPaint cs → page_marks g other ds cs ≡ marks (page_meaning g other ds) (flat cs) (start_in other (page_program ds cs) origin)
marks_paint g other ds cs h = ap (λ (o : Option Tree). marks_of (page_meaning g other ds) o (start_in other (page_program ds cs) origin)) (tree_paint cs h)

same_start : (other : FontSet) (ds : List Definition) (xs ys : List Placed) → start_in other (page_program ds xs) origin ≡ start_in other (page_program ds ys) origin
unfolding first_font
same_start other ds xs ys = refl

has_front : (other : FontSet) (us : List UnitMark) (o : Outcome) (f : grid.State → Outcome) → HasUnits other us (after o f) → BeginsUnits other us o
has_front other us None f h = absurd h
has_front other us (Some r) f h = by (f r.1) h
  where
    by : (x : Outcome) → HasUnits other us (prepend r.0 x) → BeginsUnits other us (Some r)
    by None k = absurd k
    by (Some y) k = (units_of other y.0, sym (map-append (unit_of other) r.0 y.0) ∙ k)

begins : (g : Grid) (other : FontSet) (ds : List Definition) (us : List UnitMark) (xs m all : List Placed) → AllPaint all → xs ++ m ≡ all → HasUnits other us (page_marks g other ds all) → BeginsUnits other us (page_marks g other ds xs)
begins g other ds us xs m all paint split has =
    let mean : Meaning = page_meaning g other ds in
    let s : grid.State = start_in other (page_program ds xs) origin in
    let both : AllPaint (xs ++ m) = subst AllPaint (sym split) paint in
    let parts : page_marks g other ds all ≡ after (marks mean (flat xs) s) (marks mean (flat m)) =
    ap (λ (cs : List Placed). page_marks g other ds cs) (sym split) ∙ marks_paint g other ds (xs ++ m) both
    ∙ ap (marks mean (flat (xs ++ m))) (same_start other ds (xs ++ m) xs) ∙ flat_both mean xs m s in
    subst (BeginsUnits other us) (sym (marks_paint g other ds xs (left_of (λ (c : Placed). Paints c.command) xs m both)))
    (has_front other us (marks mean (flat xs) s) (marks mean (flat m)) (subst (HasUnits other us) parts has))

-- ---- pages

abbrev Holds : FontSet → FontSet → Grid → List Definition → List Page → Finds → Type 0
Holds set other g ds ps fs = HoldsFirst set other g ds ps fs.complete fs.unfinished

-- behind the last page
post_holds : (set other : FontSet) (g : Grid) (ds : List Definition) (c : Command) (p : Placed) (next : Option Found → Finds) (tail_ : Postamble) → c ≡ Post tail_ → Holds set other g ds [] (found_at c p None next)
post_holds set other g ds c p next tail_ e = subst (λ (y : Command). Holds set other g ds [] (found_at y p None next)) (sym e) tt

none_hold : (set other : FontSet) (g : Grid) (ds : List Definition) (m later z : List Placed) (at : ℕ) (tail_ : Postamble) → m ++ later ≡ placed at (Post tail_) ∷ z → Holds set other g ds [] (find m None)
none_hold set other g ds [] later z at tail_ e = tt
none_hold set other g ds (c ∷ m) later z at tail_ e =
    let head : c ≡ placed at (Post tail_) = cc in
    post_holds set other g ds c.command c (find m) tail_ (ap (λ (x : Placed). x.command) head)

module _ (set other : FontSet) (g : Grid) (serves : Serves set other) where
  abbrev ds : List Definition
  ds = defs_from 0 set.fonts

  -- a page that is cut
  unfinished_page : (p : Page) (ps : List Page) (first : ℕ) (xs m : List Placed) → IsPutPage p → AllByRecursion (IsOf set) p.marks → xs ++ m ≡ placed_from first (marks_commands set page_pen p.marks)
      → Holds set other g ds (p ∷ ps) (find xs (Some (record { counts = p.counts; commands = [] })))
  unfinished_page p ps first xs m put of split =
      let all : List Placed = placed_from first (marks_commands set page_pen p.marks) in
      let paint : AllPaint all = placed_paint first (marks_commands set page_pen p.marks) (marks_inner set page_pen p.marks) in
      let here : AllPaint xs = left_of (λ (c : Placed). Paints c.command) xs m (subst AllPaint (sym split) paint) in
      let q : Found = record { counts = p.counts; commands = [] } in
      let found : find xs (Some q) ≡ record { complete = []; unfinished = Some (record { counts = p.counts; commands = xs }) } =
      ap (λ (l : List Placed). find l (Some q)) (sym (append-nil xs)) ∙ find_paint xs [] q here in
      subst (Holds set other g ds (p ∷ ps)) (sym found) (refl, begins g other ds (units_of set p.marks) xs m all paint split (page_kept set other g first p serves put.marks of))

  -- a page that is complete
  complete_page : (p : Page) (ps : List Page) (first eop : ℕ) (m : List Placed) → IsPutPage p → AllByRecursion (IsOf set) p.marks → Holds set other g ds ps (find m None)
      → Holds set other g ds (p ∷ ps) (find (placed_from first (marks_commands set page_pen p.marks) ++ placed eop Eop ∷ m) (Some (record { counts = p.counts; commands = [] })))
  complete_page p ps first eop m put of next =
      let all : List Placed = placed_from first (marks_commands set page_pen p.marks) in
      let paint : AllPaint all = placed_paint first (marks_commands set page_pen p.marks) (marks_inner set page_pen p.marks) in
      let q : Found = record { counts = p.counts; commands = [] } in
      subst (Holds set other g ds (p ∷ ps)) (sym (find_paint all (placed eop Eop ∷ m) q paint)) (refl, page_kept set other g first p serves put.marks of, next)

  -- what was read of a page and of what stands behind it
  body_hold : (p : Page) (ps : List Page) (first eop : ℕ) (xs later behind : List Placed) → IsPutPage p → AllByRecursion (IsOf set) p.marks → ((m : List Placed) → m ++ later ≡ behind → Holds set other g ds ps (find m None))
      → xs ++ later ≡ placed_from first (marks_commands set page_pen p.marks) ++ placed eop Eop ∷ behind → Holds set other g ds (p ∷ ps) (find xs (Some (record { counts = p.counts; commands = [] })))
  body_hold p ps first eop xs later behind put of next e = by (parted xs later all (placed eop Eop ∷ behind) e)
    where
      all : List Placed
      all = placed_from first (marks_commands set page_pen p.marks)

      q : Found
      q = record { counts = p.counts; commands = [] }

      tail_by : (m : List Placed) → xs ≡ all ++ m → m ++ later ≡ placed eop Eop ∷ behind → Holds set other g ds (p ∷ ps) (find xs (Some q))
      tail_by [] is k = unfinished_page p ps first xs [] put of (append-nil xs ∙ is ∙ append-nil all)
      tail_by (c ∷ m) is k =
          let head : c ≡ placed eop Eop = cc in
          let rest : m ++ later ≡ behind = cc in
          subst (λ (l : List Placed). Holds set other g ds (p ∷ ps) (find l (Some q))) (sym (is ∙ ap (λ (x : Placed). all ++ x ∷ m) head)) (complete_page p ps first eop m put of (next m rest))

      by : ((m : List Placed) × (xs ++ m ≡ all)) ⊎ ((m : List Placed) × (xs ≡ all ++ m) × (m ++ later ≡ placed eop Eop ∷ behind)) → Holds set other g ds (p ∷ ps) (find xs (Some q))
      by (inl h) = unfinished_page p ps first xs h.0 put of h.1
      by (inr h) = tail_by h.0 h.1 h.2

  pages_hold : (last : ℤ) (at : ℕ) (ps : List Page) (m later z : List Placed) (post : ℕ) (tail_ : Postamble) → AllByRecursion IsPutPage ps → AreOf set ps → m ++ later ≡ placed_from at (pages_commands set last at ps) ++ placed post (Post tail_) ∷ z
      → Holds set other g ds ps (find m None)
  pages_hold last at [] m later z post tail_ put of e = none_hold set other g ds m later z post tail_ e
  pages_hold last at (p ∷ ps) [] later z post tail_ put of e = tt
  pages_hold last at (p ∷ ps) (c ∷ m) later z post tail_ put of e =
      let first : ℕ = at + length (shortest_whole (Bop p.counts last)) in
      let eop : ℕ = first + length (spelled (marks_commands set page_pen p.marks)) in
      let next : ℕ = at + length (spelled (page_commands set last p)) in
      let rest : List Placed = placed_from next (pages_commands set (pos at) next ps) in
      let all : List Placed = placed_from first (marks_commands set page_pen p.marks) in
      let behind : List Placed = rest ++ placed post (Post tail_) ∷ z in
      let text : c ∷ (m ++ later) ≡ placed at (Bop p.counts last) ∷ (all ++ placed eop Eop ∷ behind) =
      e ∙ ap (λ (l : List Placed). l ++ placed post (Post tail_) ∷ z) (page_placed_from set last at p ps) ∙ ap (λ (l : List Placed). placed at (Bop p.counts last) ∷ l) (append_assoc all (placed eop Eop ∷ rest) (placed post (Post tail_) ∷ z)) in
      let head : c ≡ placed at (Bop p.counts last) = cc in
      let body_ : m ++ later ≡ all ++ placed eop Eop ∷ behind = cc in
      subst (λ (x : Placed). Holds set other g ds (p ∷ ps) (find (x ∷ m) None)) (sym head)
      (body_hold p ps first eop m later behind put.0 of.0 (λ k f. pages_hold (pos at) next ps k later z post tail_ put.1 of.1 f) body_)

  -- what was read of the front and of the pages, where the font definitions of the front have these places
  all_hold : (w_front : List Placed) (last : ℤ) (at : ℕ) (ps : List Page) (xs later z : List Placed) (post : ℕ) (tail_ : Postamble) → AllFronts w_front → definitions_of w_front ≡ ds → AllByRecursion IsPutPage ps → AreOf set ps
      → xs ++ later ≡ w_front ++ (placed_from at (pages_commands set last at ps) ++ placed post (Post tail_) ∷ z) → Holds set other g (fonts_before xs) ps (find xs None)
  all_hold front last at ps xs later z post tail_ fronts defs put of e = by (parted xs later front (placed_from at (pages_commands set last at ps) ++ placed post (Post tail_) ∷ z) e)
    where
      inside : (qs : List Page) (m : List Placed) → AllByRecursion IsPutPage qs → AreOf set qs → m ++ later ≡ placed_from at (pages_commands set last at qs) ++ placed post (Post tail_) ∷ z → Holds set other g (fonts_before (front ++ m)) qs (find m None)
      inside qs [] p o k = tt
      inside [] (c ∷ m) p o k = none_hold set other g (fonts_before (front ++ c ∷ m)) (c ∷ m) later z post tail_ k
      inside (q ∷ qs) (c ∷ m) p o k =
          let text : c ∷ (m ++ later) ≡ placed_from at (pages_commands set last at (q ∷ qs)) ++ placed post (Post tail_) ∷ z = k in
          let head : c ≡ placed at (Bop q.counts last) = cc in
          let bop : c.command ≡ Bop q.counts last = ap (λ (x : Placed). x.command) head in
          subst (λ (l : List Definition). Holds set other g l (q ∷ qs) (find (c ∷ m) None)) (sym (fonts_front front m c q.counts last fronts bop ∙ defs)) (pages_hold last at (q ∷ qs) (c ∷ m) later z post tail_ p o k)

      by : ((m : List Placed) × (xs ++ m ≡ front)) ⊎ ((m : List Placed) × (xs ≡ front ++ m) × (m ++ later ≡ placed_from at (pages_commands set last at ps) ++ placed post (Post tail_) ∷ z)) → Holds set other g (fonts_before xs) ps (find xs None)
      by (inl h) = subst (Holds set other g (fonts_before xs) ps) (sym (find_only xs (left_of (λ (c : Placed). Fronts c.command) xs h.0 (subst AllFronts (sym h.1) fronts)))) tt
      by (inr h) =
          subst (λ (l : List Placed). Holds set other g (fonts_before l) ps (find l None)) (sym h.1)
          (subst (Holds set other g (fonts_before (front ++ h.0)) ps) (sym (find_front front h.0 fronts)) (inside ps h.0 put of h.2))

-- ---- the whole copy

pub cuts_hold : OneSpelling → ShortestSpelling → CutsHoldFirstPages
cuts_hold one shortest w ps put of other g serves n front rest read cut lexes =
    let set : FontSet = w.set in
    let start : ℕ = pages_place w in
    let last : ℤ = last_bop set (negsuc 0) start ps in
    let commands : List Command = copy_commands w ps in
    let pages : List Command = pages_commands set (negsuc 0) start ps in
    let back : List Command = back_commands w last (post_place w ps) (length ps) in
    let post : ℕ = start + length (spelled pages) in
    let bytes : front ++ (rest ++ drop n (file w ps)) ≡ spelled commands ++ filling (length (body w ps)) =
    sym (append_assoc front rest (drop n (file w ps))) ∙ ap (λ (l : List ℕ). l ++ drop n (file w ps)) (sym cut) ∙ take_drop n (file w ps) ∙ ap (λ (l : List ℕ). l ++ filling (length (body w ps))) (body_is w ps) in
    let both = common one 0 front (spelled commands) (rest ++ drop n (file w ps)) (filling (length (body w ps))) read (placed_from 0 commands) lexes (spells shortest 0 commands (spellable w ps put).room) bytes in
    let fronts : List Placed = placed_from 0 (front_commands w) in
    let none : 0 + length (spelled (front_commands w)) ≡ start = omega arith in
    let parts : placed_from 0 commands ≡ fronts ++ (placed_from start pages ++ placed_from post back) =
    placed_both 0 (front_commands w) (pages ++ back) ∙ ap (λ (k : ℕ). fronts ++ placed_from k (pages ++ back)) none ∙ ap (λ (l : List Placed). fronts ++ l) (placed_both start pages back) in
    let z : List Placed = placed_from (post + length (shortest_whole (Post (postamble w last (length ps))))) (definitions set ++ PostPost (post_place w ps) 2 ∷ []) in
    let whole : read ++ both.0 ≡ fronts ++ (placed_from start pages ++ placed post (Post (postamble w last (length ps))) ∷ (z ++ both.1)) =
    both.2 ∙ ap (λ (l : List Placed). l ++ both.1) parts ∙ append_assoc fronts (placed_from start pages ++ placed_from post back) both.1
    ∙ ap (λ (l : List Placed). fronts ++ l) (append_assoc (placed_from start pages) (placed_from post back) both.1) in
    all_hold set other g serves fronts (negsuc 0) start ps read both.0 (z ++ both.1) post (postamble w last (length ps))
    (placed_fronts 0 (front_commands w) (tt, defs_fronts 0 set.fonts)) (defs_are (0 + length (shortest_whole (Pre (preamble w.head w.mag)))) 0 set.fonts) put.pages of whole
