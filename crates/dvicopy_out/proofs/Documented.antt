-- That a copy is a document.
use Rattle.std.proofs.Common.{◌≡◌, ◌≤◌, ◌+◌, ◌-◌, ◌%◌, ◌⊎◌, ℕ, ℤ, pos, negsuc, zero, suc, Bool, true, false, List, [], ◌∷◌, ◌++◌, length, refl, sym, ap, subst, ◌∙◌, arith, inl, inr, append_assoc, length-append}
use Rattle.std.specs.Prelude.{replicate, if◌then◌else◌, ◌+ℤ◌, ◌-ℤ◌, unsigned_abs}
use Rattle.std.specs.List.{AllByRecursion}
use Rattle.std.proofs.lemmas.Int.{ints}
use Rattle.std.proofs.lemmas.List.{append-nil}
use Rattle.std.proofs.lemmas.List.Elements.{All-from_recursion, Contains-get_or}
use Rattle.dvi_ops.specs.Command.{Command, Definition}
use Rattle.dvi_ops.specs.Command.Command.{Set, Put, PutRule, Right, Down, Fnt, Xxx, Bop, Eop, Pre, PostPost, FntDef}
use Rattle.dvi_ops.specs.Laws.{ShortestSpelling}
use Rattle.dvi_ops.specs.Numbered.{Has, HasTwice}
use Rattle.dvi_ops.specs.Placed.{Placed, Lexes}
use Rattle.dvi_ops.specs.Shortest.{HasRoom, shortest_whole}
use Rattle.dvi_doc.specs.Document as document
use Rattle.dvi_doc.specs.Document.{PageOf, Item, File, between, commands_of, definitions_before, definitions_of, document_of, pages_of, placed}
use Rattle.dvi_doc.specs.Document.Item.{Filler, Paged}
use Rattle.dvi_doc.specs.Grammar.{AllAmong, AllFillers, AllInner, AllItems, AreFonts, IsFile, IsFill, IsFiller, IsInner, IsNamed, IsSize, IsSized, first_place, numbers_of}
use Rattle.positions.specs.Mark.{Mark}
use Rattle.positions.specs.Mark.Mark.{OfGlyph, OfRule, OfSpecial}
use Rattle.font_set.specs.Key.{Key, IsKey, IsUnits}
use Rattle.font_set.specs.Fonts.{Entry, FontSet}
use Rattle.dvicopy_out.specs.AsDocument.{SpellableIsDocument, copy_commands, file_of, fillers, paged, pages_commands, pages_place, placed_from, post_command, post_place}
use Rattle.dvicopy_out.specs.Copies.{Page, Work, back_commands, body, file, filling, front_commands, last_bop, page_commands, pages_bytes, preamble}
use Rattle.std.specs.Ordering.{int_eq}
use Rattle.dvicopy_out.specs.Marked.{Pen, char_command, fits, is_selected, mark_commands, mark_pen, marks_commands, page_pen, selecting, way}
use Rattle.dvicopy_out.specs.Moves.{first_part, moves, part}
use Rattle.dvicopy_out.specs.Numbered.{definition, definitions, definitions_from, is_real, number_of as font_number, one_where, put_definition}
use Rattle.dvicopy_out.specs.Spelled.{spelled}
use Rattle.dvicopy_out.proofs.Ending.{length_filling}
use Rattle.dvicopy_out.proofs.Spelling.{spelled_both}

-- ---- commands with their places

pub spells : ShortestSpelling → (at : ℕ) (cs : List Command) → AllByRecursion HasRoom cs → Lexes at (spelled cs) (placed_from at cs)
spells law at [] h = refl
spells law at (c ∷ cs) h = (refl, shortest_whole c, spelled cs, refl, (law c h.0).0, spells law (at + length (shortest_whole c)) cs h.1)

pub placed_both : (at : ℕ) (xs ys : List Command) → placed_from at (xs ++ ys) ≡ placed_from at xs ++ placed_from (at + length (spelled xs)) ys
placed_both at [] ys = let e : at ≡ at + 0 = omega arith in ap (λ (n : ℕ). placed_from n ys) e
placed_both at (x ∷ xs) ys =
    let n : ℕ = length (shortest_whole x) in
    let e : (at + n) + length (spelled xs) ≡ at + length (shortest_whole x ++ spelled xs) = omega (arith, length-append (shortest_whole x) (spelled xs)) in
    ap (λ (l : List Placed). placed at x ∷ l) (placed_both (at + n) xs ys ∙ ap (λ (m : ℕ). placed_from (at + n) xs ++ placed_from m ys) e)

between_fillers : (last : ℤ) (at : ℕ) (cs : List Command) (is : List Item) → between last (fillers at cs ++ is) ≡ placed_from at cs ++ between last is
between_fillers last at [] is = refl
between_fillers last at (c ∷ cs) is = ap (λ (l : List Placed). placed at c ∷ l) (between_fillers last (at + length (shortest_whole c)) cs is)

pages_spelled : (set : FontSet) (last : ℤ) (at : ℕ) (ps : List Page) → spelled (pages_commands set last at ps) ≡ pages_bytes set last at ps
pages_spelled set last at [] = refl
pages_spelled set last at (p ∷ ps) =
    let here : List Command = page_commands set last p in
    let next : ℕ = at + length (spelled here) in
    spelled_both here (pages_commands set (pos at) next ps) ∙ ap (λ bs. spelled here ++ bs) (pages_spelled set (pos at) next ps)

-- the commands of a page and of those behind it, with their places
pub page_placed_from : (set : FontSet) (last : ℤ) (at : ℕ) (p : Page) (ps : List Page) → let first : ℕ = at + length (shortest_whole (Bop p.counts last)) in let next : ℕ = at + length (spelled (page_commands set last p)) in
    placed_from at (pages_commands set last at (p ∷ ps)) ≡ placed at (Bop p.counts last) ∷ (placed_from first (marks_commands set page_pen p.marks) ++ placed (first + length (spelled (marks_commands set page_pen p.marks))) Eop ∷ placed_from next (pages_commands set (pos at) next ps))
page_placed_from set last at p ps =
    let bop : Command = Bop p.counts last in
    let marks : List Command = marks_commands set page_pen p.marks in
    let first : ℕ = at + length (shortest_whole bop) in
    let eop : ℕ = first + length (spelled marks) in
    let next : ℕ = at + length (spelled (page_commands set last p)) in
    let rest : List Command = pages_commands set (pos at) next ps in
    let body_ : List Command = marks ++ Eop ∷ [] in
    let whole = ap (λ (bs : List ℕ). length bs) (spelled_both marks (Eop ∷ [])) in
    let e : first + length (spelled body_) ≡ next = omega (arith, length-append (shortest_whole bop) (spelled body_)) in
    let tail_ : placed_from first (body_ ++ rest) ≡ placed_from first marks ++ placed eop Eop ∷ placed_from next rest =
    placed_both first body_ rest ∙ ap (λ (n : ℕ). placed_from first body_ ++ placed_from n rest) e ∙ ap (λ (l : List Placed). l ++ placed_from next rest) (placed_both first marks (Eop ∷ []))
    ∙ append_assoc (placed_from first marks) (placed eop Eop ∷ []) (placed_from next rest) in
    ap (λ (l : List Placed). placed at bop ∷ l) tail_

between_pages : (set : FontSet) (last : ℤ) (at : ℕ) (ps : List Page) → between last (paged set last at ps) ≡ placed_from at (pages_commands set last at ps)
between_pages set last at [] = refl
between_pages set last at (p ∷ ps) =
    let first : ℕ = at + length (shortest_whole (Bop p.counts last)) in
    let marks : List Command = marks_commands set page_pen p.marks in
    let next : ℕ = at + length (spelled (page_commands set last p)) in
    ap (λ (l : List Placed). placed at (Bop p.counts last) ∷ (placed_from first marks ++ placed (first + length (spelled marks)) Eop ∷ l)) (between_pages set (pos at) next ps)
    ∙ sym (page_placed_from set last at p ps)

-- the commands of the file are those of the copy at their places
commands_are : (w : Work) (ps : List Page) → commands_of (file_of w ps) ≡ placed_from 0 (copy_commands w ps)
commands_are w ps =
    let set : FontSet = w.set in
    let head : Command = Pre (preamble w.head w.mag) in
    let defs : List Command = definitions set in
    let h : ℕ = 0 + length (shortest_whole head) in
    let start : ℕ = pages_place w in
    let last : ℤ = last_bop set (negsuc 0) start ps in
    let pages : List Command = pages_commands set (negsuc 0) start ps in
    let post : ℕ = post_place w ps in
    let back : List Command = back_commands w last post (length ps) in
    let p : Command = post_command w ps in
    let behind : ℕ = post + length (shortest_whole p) in
    let ends : ℕ = behind + length (spelled defs) in
    let pp : Command = PostPost post 2 in
    let e1 : h + length (spelled defs) ≡ start = omega (arith, length-append (shortest_whole head) (spelled defs)) in
    let e2 : start + length (spelled pages) ≡ post = ap (λ (bs : List ℕ). start + length bs) (pages_spelled set (negsuc 0) start ps) in
    let left : between (negsuc 0) (fillers h defs ++ paged set (negsuc 0) start ps) ≡ placed_from h defs ++ placed_from start pages =
    between_fillers (negsuc 0) h defs (paged set (negsuc 0) start ps) ∙ ap (λ (l : List Placed). placed_from h defs ++ l) (between_pages set (negsuc 0) start ps) in
    let backs : placed_from post back ≡ placed post p ∷ (placed_from behind defs ++ placed ends pp ∷ []) = ap (λ (l : List Placed). placed post p ∷ l) (placed_both behind defs (pp ∷ [])) in
    let right : placed_from h (defs ++ (pages ++ back)) ≡ (placed_from h defs ++ placed_from start pages) ++ placed_from post back =
    placed_both h defs (pages ++ back) ∙ ap (λ (n : ℕ). placed_from h defs ++ placed_from n (pages ++ back)) e1
    ∙ ap (λ (l : List Placed). placed_from h defs ++ l) (placed_both start pages back ∙ ap (λ (n : ℕ). placed_from start pages ++ placed_from n back) e2)
    ∙ sym (append_assoc (placed_from h defs) (placed_from start pages) (placed_from post back)) in
    ap (λ (l : List Placed). placed 0 head ∷ l)
    ((λ i. left i ++ sym backs i) ∙ sym right)

-- the bytes of the copy are those of its commands
pub body_is : (w : Work) (ps : List Page) → body w ps ≡ spelled (copy_commands w ps)
body_is w ps =
    let front : List Command = front_commands w in
    let start : ℕ = pages_place w in
    let last : ℤ = last_bop w.set (negsuc 0) start ps in
    let pages : List Command = pages_commands w.set (negsuc 0) start ps in
    let back : List Command = back_commands w last (post_place w ps) (length ps) in
    append_assoc (spelled front) (pages_bytes w.set (negsuc 0) start ps) (spelled back)
    ∙ ap (λ bs. spelled front ++ (bs ++ spelled back)) (sym (pages_spelled w.set (negsuc 0) start ps))
    ∙ ap (λ bs. spelled front ++ bs) (sym (spelled_both pages back)) ∙ sym (spelled_both front (pages ++ back))

-- ---- what stands where

-- what a mark is made of
abbrev pub Paints : Command → Type 0
Paints (Set c) = Unit {0}
Paints (Put c) = Unit {0}
Paints (PutRule a b) = Unit {0}
Paints (Right q) = Unit {0}
Paints (Down q) = Unit {0}
Paints (Fnt k) = Unit {0}
Paints (Xxx text) = Unit {0}
Paints _ = ⊥

paints_inner : (c : Command) → Paints c → IsInner c
paints_inner (Set c) h = tt
paints_inner (Put c) h = tt
paints_inner (PutRule a b) h = tt
paints_inner (Right q) h = tt
paints_inner (Down q) h = tt
paints_inner (Fnt k) h = tt
paints_inner (Xxx text) h = tt
paints_inner _ h = absurd h

paints_none : (c : Command) (ds : List Definition) → Paints c → document.put_definition c ds ≡ ds
paints_none (Set c) ds h = refl
paints_none (Put c) ds h = refl
paints_none (PutRule a b) ds h = refl
paints_none (Right q) ds h = refl
paints_none (Down q) ds h = refl
paints_none (Fnt k) ds h = refl
paints_none (Xxx text) ds h = refl
paints_none _ ds h = absurd h

placed_inner : (at : ℕ) (cs : List Command) → AllByRecursion Paints cs → AllInner (placed_from at cs)
placed_inner at [] h = tt
placed_inner at (c ∷ cs) h = (paints_inner c h.0, placed_inner (at + length (shortest_whole c)) cs h.1)

placed_none : (at : ℕ) (cs : List Command) → AllByRecursion Paints cs → definitions_of (placed_from at cs) ≡ []
placed_none at [] h = refl
placed_none at (c ∷ cs) h = paints_none c (definitions_of (placed_from (at + length (shortest_whole c)) cs)) h.0 ∙ placed_none (at + length (shortest_whole c)) cs h.1

pub each_both : {X : Type 0} (P : X → Type 0) (xs ys : List X) → AllByRecursion P xs → AllByRecursion P ys → AllByRecursion P (xs ++ ys)
each_both P [] ys f g = g
each_both P (x ∷ xs) ys f g = (f.0, each_both P xs ys f.1 g)

part_each : (P : Command → Type 0) (move : ℤ → Command) → ((q : ℤ) → P (move q)) → (q : ℤ) → AllByRecursion P (part move q)
part_each P move all q = by (int_eq q (pos 0)) where
  by : (b : Bool) → AllByRecursion P (if b then [] else move q ∷ [])
  by true = tt
  by false = (all q, tt)

moves_each : (P : Command → Type 0) (move : ℤ → Command) → ((q : ℤ) → P (move q)) → (q : ℤ) → AllByRecursion P (moves move q)
moves_each P move all q = each_both P (part move (first_part q)) (part move (q -ℤ first_part q)) (part_each P move all (first_part q)) (part_each P move all (q -ℤ first_part q))

way_inner : (p : Pen) (h v : ℤ) → AllByRecursion Paints (way p h v)
way_inner p h v = each_both Paints (moves Right (h -ℤ p.h)) (moves Down (v -ℤ p.v)) (moves_each Paints Right (λ q. tt) (h -ℤ p.h)) (moves_each Paints Down (λ q. tt) (v -ℤ p.v))

select_inner : (b : Bool) (n : ℕ) → AllByRecursion Paints (if b then [] else Fnt (pos n) ∷ [])
select_inner true n = tt
select_inner false n = (tt, tt)

char_inner : (b : Bool) (code : ℕ) → Paints (char_command b code)
char_inner true code = tt
char_inner false code = tt

pub mark_inner : (set : FontSet) (p : Pen) (m : Mark) → AllByRecursion Paints (mark_commands set p m)
mark_inner set p (OfGlyph g) =
    let n : ℕ = font_number set g.font in
    each_both Paints (way p g.h g.v) (selecting p.font n ++ char_command (fits (g.h +ℤ g.width)) g.code ∷ []) (way_inner p g.h g.v)
    (each_both Paints (selecting p.font n) (char_command (fits (g.h +ℤ g.width)) g.code ∷ []) (select_inner (is_selected p.font n) n) (char_inner (fits (g.h +ℤ g.width)) g.code, tt))
mark_inner set p (OfRule r) = each_both Paints (way p r.h r.v) (PutRule r.a r.b ∷ []) (way_inner p r.h r.v) (tt, tt)
mark_inner set p (OfSpecial s) = each_both Paints (way p s.h s.v) (Xxx s.bytes ∷ []) (way_inner p s.h s.v) (tt, tt)

pub marks_inner : (set : FontSet) (p : Pen) (ms : List Mark) → AllByRecursion Paints (marks_commands set p ms)
marks_inner set p [] = tt
marks_inner set p (m ∷ ms) = each_both Paints (mark_commands set p m) (marks_commands set (mark_pen set p m) ms) (mark_inner set p m) (marks_inner set (mark_pen set p m) ms)

first_is : (at : ℕ) (cs : List Command) → at ≡ first_place (placed_from at cs) (at + length (spelled cs))
first_is at [] = omega arith
first_is at (c ∷ cs) = refl

pages_items : (set : FontSet) (last : ℤ) (at : ℕ) (ps : List Page) → AllItems (paged set last at ps)
pages_items set last at [] = tt
pages_items set last at (p ∷ ps) =
    let marks : List Command = marks_commands set page_pen p.marks in
    let first : ℕ = at + length (shortest_whole (Bop p.counts last)) in
    (placed_inner first marks (marks_inner set page_pen p.marks), first_is first marks, pages_items set (pos at) (at + length (spelled (page_commands set last p))) ps)

abbrev Fills : Command → Type 0
Fills c = IsFiller c

fillers_items : (at : ℕ) (cs : List Command) (is : List Item) → AllByRecursion Fills cs → AllItems is → AllItems (fillers at cs ++ is)
fillers_items at [] is h k = k
fillers_items at (c ∷ cs) is h k = (h.0, fillers_items (at + length (shortest_whole c)) cs is h.1 k)

placed_fillers : (at : ℕ) (cs : List Command) → AllByRecursion Fills cs → AllFillers (placed_from at cs)
placed_fillers at [] h = tt
placed_fillers at (c ∷ cs) h = (h.0, placed_fillers (at + length (shortest_whole c)) cs h.1)

definition_fills : (n : ℕ) (key : Key) (b : Bool) (cs : List Command) → AllByRecursion Fills cs → AllByRecursion Fills (put_definition n key b cs)
definition_fills n key true cs h = (tt, h)
definition_fills n key false cs h = h

definitions_fill : (n : ℕ) (es : List Entry) → AllByRecursion Fills (definitions_from n es)
definitions_fill n [] = tt
definitions_fill n (e ∷ es) = definition_fills n e.key (is_real e.state) (definitions_from (n + one_where (is_real e.state)) es) (definitions_fill (n + one_where (is_real e.state)) es)

last_of_fillers : (last : ℤ) (at : ℕ) (cs : List Command) (is : List Item) → document.last_bop last (fillers at cs ++ is) ≡ document.last_bop last is
last_of_fillers last at [] is = refl
last_of_fillers last at (c ∷ cs) is = last_of_fillers last (at + length (shortest_whole c)) cs is

last_of_pages : (set : FontSet) (last : ℤ) (at : ℕ) (ps : List Page) → last_bop set last at ps ≡ document.last_bop last (paged set last at ps)
last_of_pages set last at [] = refl
last_of_pages set last at (p ∷ ps) = last_of_pages set (pos at) (at + length (spelled (page_commands set last p))) ps

fill_all : (n : ℕ) → AllByRecursion IsFill (replicate n 223)
fill_all zero = tt
fill_all (suc n) = (refl, fill_all n)

-- ---- the fonts

abbrev pub defs_put : ℕ → Key → Bool → List Definition → List Definition
defs_put n key real ds = if real then definition n key ∷ ds else ds

abbrev pub defs_from : ℕ → List Entry → List Definition
defs_from n [] = []
defs_from n (e ∷ es) = defs_put n e.key (is_real e.state) (defs_from (n + one_where (is_real e.state)) es)

defs_of_put : (at n : ℕ) (key : Key) (b : Bool) (cs : List Command) (ds : List Definition) → ((m : ℕ) → definitions_of (placed_from m cs) ≡ ds) → definitions_of (placed_from at (put_definition n key b cs)) ≡ defs_put n key b ds
defs_of_put at n key true cs ds h = ap (λ (l : List Definition). definition n key ∷ l) (h (at + length (shortest_whole (FntDef (definition n key)))))
defs_of_put at n key false cs ds h = h at

pub defs_are : (at n : ℕ) (es : List Entry) → definitions_of (placed_from at (definitions_from n es)) ≡ defs_from n es
defs_are at n [] = refl
defs_are at n (e ∷ es) =
    let m : ℕ = n + one_where (is_real e.state) in
    defs_of_put at n e.key (is_real e.state) (definitions_from m es) (defs_from m es) (λ k. defs_are k m es)

has_put : (n : ℕ) (key : Key) (b : Bool) (ds : List Definition) (k : ℤ) → Has (numbers_of (defs_put n key b ds)) k → ((b ≡ true) × (pos n ≡ k)) ⊎ Has (numbers_of ds) k
has_put n key true ds k (inl e) = inl (refl, e)
has_put n key true ds k (inr h) = inr h
has_put n key false ds k h = inr h

pick : {A H : Type 0} (n w : ℕ) (k : ℤ) → (H → (m : ℕ) × (k ≡ pos m) × (n + w ≤ m)) → (A × (pos n ≡ k)) ⊎ H → (m : ℕ) × (k ≡ pos m) × (n ≤ m)
pick n w k f (inl p) = (n, sym p.1, omega arith)
pick n w k f (inr q) = let r = f q in (r.0, r.1, omega (arith, r.2))

-- the fonts are numbered from n
least : (es : List Entry) (n : ℕ) (k : ℤ) → Has (numbers_of (defs_from n es)) k → (m : ℕ) × (k ≡ pos m) × (n ≤ m)
least [] n k h = absurd h
least (e ∷ es) n k h =
    let w : ℕ = one_where (is_real e.state) in
    pick n w k (least es (n + w) k) (has_put n e.key (is_real e.state) (defs_from (n + w) es) k h)

once_put : (n : ℕ) (key : Key) (b : Bool) (ds : List Definition) (k : ℤ) → (b ≡ true → pos n ≡ k → Has (numbers_of ds) k → ⊥) → (HasTwice (numbers_of ds) k → ⊥) → HasTwice (numbers_of (defs_put n key b ds)) k → ⊥
once_put n key true ds k f g (inl p) = f refl p.0 p.1
once_put n key true ds k f g (inr t) = g t
once_put n key false ds k f g t = g t

once : (es : List Entry) (n : ℕ) (k : ℤ) → HasTwice (numbers_of (defs_from n es)) k → ⊥
once [] n k h = h
once (e ∷ es) n k h =
    let m : ℕ = n + one_where (is_real e.state) in
    once_put n e.key (is_real e.state) (defs_from m es) k
    (λ t here behind.
    let r = least es m k behind in
    let one : one_where (is_real e.state) ≡ 1 = ap one_where t in
    let same : n ≡ r.0 = ap unsigned_abs (here ∙ r.1) in
    omega (arith, r.2, one, same)) (once es m k) h

put_each : (P : Definition → Type 0) (n : ℕ) (key : Key) (b : Bool) (ds : List Definition) → P (definition n key) → AllByRecursion P ds → AllByRecursion P (defs_put n key b ds)
put_each P n key true ds p h = (p, h)
put_each P n key false ds p h = h

defs_each : (P : Definition → Type 0) → ((n : ℕ) (key : Key) → IsKey key → P (definition n key)) → (es : List Entry) (n : ℕ) → AllByRecursion (λ (e : Entry). IsKey e.key) es → AllByRecursion P (defs_from n es)
defs_each P all [] n h = tt
defs_each P all (e ∷ es) n h =
    let m : ℕ = n + one_where (is_real e.state) in
    put_each P n e.key (is_real e.state) (defs_from m es) (all n e.key h.0) (defs_each P all es m h.1)

size_of : (n : ℕ) → IsUnits n → IsSize (pos n)
size_of n h = (omega (arith, ints, h.0), omega (arith, ints, h.1))

-- ---- the definitions before the pages

put_both_doc : (c : Command) (xs ys : List Definition) → document.put_definition c (xs ++ ys) ≡ document.put_definition c xs ++ ys
put_both_doc (FntDef d) xs ys = refl
put_both_doc _ xs ys = refl

before_fillers : (at : ℕ) (cs : List Command) (is : List Item) → definitions_before (fillers at cs ++ is) ≡ definitions_of (placed_from at cs) ++ definitions_before is
before_fillers at [] is = refl
before_fillers at (c ∷ cs) is =
    let next : ℕ = at + length (shortest_whole c) in
    ap (document.put_definition c) (before_fillers next cs is) ∙ put_both_doc c (definitions_of (placed_from next cs)) (definitions_before is)

before_pages : (set : FontSet) (last : ℤ) (at : ℕ) (ps : List Page) → definitions_before (paged set last at ps) ≡ []
before_pages set last at [] = refl
before_pages set last at (p ∷ ps) =
    let marks : List Command = marks_commands set page_pen p.marks in
    let first : ℕ = at + length (shortest_whole (Bop p.counts last)) in
    let rest : List Item = paged set (pos at) (at + length (spelled (page_commands set last p))) ps in
    ap (λ (l : List Definition). l ++ definitions_before rest) (placed_none first marks (marks_inner set page_pen p.marks)) ∙ before_pages set (pos at) (at + length (spelled (page_commands set last p))) ps

pub pages_of_fillers : (at : ℕ) (cs : List Command) (is : List Item) → pages_of (fillers at cs ++ is) ≡ pages_of is
pages_of_fillers at [] is = refl
pages_of_fillers at (c ∷ cs) is = pages_of_fillers (at + length (shortest_whole c)) cs is

count_pages : (set : FontSet) (last : ℤ) (at : ℕ) (ps : List Page) → length (pages_of (paged set last at ps)) ≡ length ps
count_pages set last at [] = refl
count_pages set last at (p ∷ ps) = ap (λ (n : ℕ). suc n) (count_pages set (pos at) (at + length (spelled (page_commands set last p))) ps)

-- ---- the law

pub copy_is_document : ShortestSpelling → SpellableIsDocument
copy_is_document law w ps good =
    let set : FontSet = w.set in
    let f : File = file_of w ps in
    let defs : List Command = definitions set in
    let h : ℕ = 0 + length (shortest_whole (Pre (preamble w.head w.mag))) in
    let start : ℕ = pages_place w in
    let pages : List Item = paged set (negsuc 0) start ps in
    let last : ℤ = last_bop set (negsuc 0) start ps in
    let behind : ℕ = post_place w ps + length (shortest_whole (post_command w ps)) in
    let whole : List ℕ = body w ps in
    let fill : List ℕ = filling (length whole) in
    let fonts : List Definition = defs_from 0 set.fonts in
    let many : 4 ≤ length fill = omega (arith, length_filling (length whole)) in
    let items : AllItems (fillers h defs ++ pages) = fillers_items h defs pages (definitions_fill 0 set.fonts) (pages_items set (negsuc 0) start ps) in
    let back : last ≡ document.last_bop (negsuc 0) (fillers h defs ++ pages) = last_of_pages set (negsuc 0) start ps ∙ sym (last_of_fillers (negsuc 0) h defs pages) in
    let lexes : Lexes 0 whole (commands_of f) =
    subst (λ (cs : List Placed). Lexes 0 whole cs) (sym (commands_are w ps)) (subst (λ (bs : List ℕ). Lexes 0 bs (placed_from 0 (copy_commands w ps))) (sym (body_is w ps)) (spells law 0 (copy_commands w ps) good.room)) in
    let is_file : IsFile (file w ps) f = (refl, items, placed_fillers behind defs (definitions_fill 0 set.fonts), back, whole, fill, refl, many, All-from_recursion IsFill fill (fill_all (7 - (length whole + 3) % 4)), lexes) in
    let after : definitions_of (placed_from behind defs) ≡ fonts = defs_are behind 0 set.fonts in
    let before : definitions_before (fillers h defs ++ pages) ≡ fonts =
    before_fillers h defs pages ∙ (λ i. defs_are h 0 set.fonts i ++ before_pages set (negsuc 0) start ps i) ∙ append-nil fonts in
    let are : AreFonts fonts = (
      once set.fonts 0,
      All-from_recursion IsNamed fonts (defs_each IsNamed (λ n key k. k.name) set.fonts 0 good.keys),
      All-from_recursion IsSized fonts (defs_each IsSized (λ n key k. (size_of key.size k.size, size_of key.design k.design)) set.fonts 0 good.keys),
    ) in
    let among : AllAmong fonts fonts = λ k d inside. Contains-get_or fonts k d inside in
    let count : length (pages_of (fillers h defs ++ pages)) % 65536 ≡ length ps % 65536 = ap (λ (n : ℕ). n % 65536) (ap (λ (l : List PageOf). length l) (pages_of_fillers h defs pages) ∙ count_pages set (negsuc 0) start ps) in
    (f, is_file, refl, (subst AreFonts (sym after) are, subst (λ (ds : List Definition). AllAmong ds (document_of f).before) (sym after) (subst (λ (ds : List Definition). AllAmong fonts ds) (sym before) among), count, (refl, refl, refl)))
