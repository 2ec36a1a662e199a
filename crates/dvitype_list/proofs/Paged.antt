-- Pages one after another, and the whole listing.
use Rattle.std.proofs.Common.{◌≡◌, ◌≤◌, ◌<◌, ◌+◌, ◌++◌, ℕ, ℤ, pos, negsuc, Bool, List, [], ◌∷◌, length, length-append, map, get_or, take, drop, reverse, Option, Some, None, refl, sym, ap, subst, ◌∙◌, append_assoc, arith}
use Rattle.std.specs.Prelude.{slice_get}
use Rattle.std.specs.Option.{option_map}
use Rattle.std.proofs.lemmas.List.{append-nil, take-append-drop, take_more}
use Rattle.std.proofs.lemmas.Option.{slice_get-map, get_or_from_slice_get}
use Rattle.std.proofs.Math.ListN.{get_or-map, length-map}
use Rattle.dv_base.specs.Rounding.{Fraction}
use Rattle.dv_base.specs.Shelf.{Told, Keeps}
use Rattle.dv_base.specs.Tray.{Seen}
use Rattle.dvi_ops.specs.Command.{Command, Definition, Preamble}
use Rattle.dvi_ops.specs.Command.Command.{Eop, Post, PostPost}
use Rattle.dvi_ops.specs.Spelling.{Spell}
use Rattle.positions.specs.Place.{origin}
use Rattle.dvi_ops.specs.Placed.{Placed, Lexes}
use Rattle.dvi_doc.specs.Document.{Document, Item, PageOf, between, commands_of, pages_of, placed}
use Rattle.dvi_doc.specs.Document.Item.{Filler, Paged}
use Rattle.dvi_doc.specs.Grammar.{IsDoc, AllInner}
use Rattle.dvi_doc.specs.Laws.{OneDocument}
use Rattle.dvi_doc.specs.View.{ReadDoc, IsRead, Outline, outline, page_view}
use Rattle.dvi_doc.specs.declared.page.Page.{Page}
use Rattle.font_set.specs.Fonts.{FontSet}
use Rattle.font_set.specs.Growth.{Extends}
use Rattle.font_set.specs.Key.{Key}
use Rattle.font_set.specs.Programs.{page_fonts}
use Rattle.dvitype_list.specs.Standing.{Standing, Setting, page_start}
use Rattle.dvitype_list.specs.Turns.{turned}
use Rattle.dvitype_list.specs.Listing.{Run, then_text, then_run, one_run, commands_run, page_run, page_commands, pages_run, done_run, listing}
use Rattle.dvitype_list.specs.Listing.Course.{Ends}
use Rattle.dvitype_list.specs.Texts.{page_line, head_text, font_lines, done_line}
use Rattle.dvitype_list.specs.Widths.{setting, widths_of}
use Rattle.dvitype_list.specs.Gathered.{Gathered, Cut}
use Rattle.dvitype_list.specs.Kept.{Failed, Finished, IsSelected, Went, Ran, Stands}
use Rattle.dvitype_list.specs.declared.fault.ListFault.{ListFault}
use Rattle.dvitype_list.specs.declared.fault.ListFault.TheVariants as fault
use Rattle.dvitype_list.specs.declared.state.Selected.{Selected}
use Rattle.dvitype_list.specs.declared.state.State.{State}
use Rattle.dvitype_list.proofs.Gathering.{gathered_is, cut_is, cut_longer}
use Rattle.dvitype_list.proofs.Runs.{run_append, pages_append, pages_one, pages_first, pages_none, pages_later, then_ends, failed_is, failed_first, failed_after, failed_text, ran_after, ran_is, ran_text}
use Rattle.dvitype_list.proofs.Widening.{widths_later}
use Rattle.dvitype_list.proofs.Going.{ran_more, failed_more, failed_before}

-- ---- the page of the document

same_some : {X : Type 0} (x y : X) → Some x ≡ Some y → x ≡ y
same_some x y e = cc

-- what is found of a page is the document's
pub page_found : OneDocument → (r : ReadDoc) (d : Document) (k : ℕ) (ps : List Page) (dummy : Page) (p : PageOf) → IsRead r → IsDoc r.bytes d → map page_view ps ≡ r.pages → slice_get d.pages k ≡ Some p → page_view (get_or ps k dummy) ≡ outline p
page_found one r d k ps dummy p (e, is, shows) h views there =
    let same : e ≡ d = one r.bytes e d is h in
    let found : slice_get r.pages k ≡ Some (outline p) =
    ap (λ (os : List Outline). slice_get os k) shows.1 ∙ ap (λ (x : Document). slice_get (map outline x.pages) k) same
    ∙ slice_get-map outline d.pages k ∙ ap (option_map outline) there in
    sym (get_or-map page_view ps k dummy) ∙ ap (λ (xs : List Outline). get_or xs k (page_view dummy)) views ∙ get_or_from_slice_get r.pages k (outline p) (page_view dummy) found

-- A page of the document: it is the one that was found at this place, and the bytes spell its commands.
pub record Found (r : ReadDoc) (d : Document) (k : ℕ) (x : Page) (bytes : List ℕ) : Type 0 where
  pub page : PageOf
  pub there : slice_get d.pages k ≡ Some page
  pub seen : page_view x ≡ outline page
  pub lexed : Lexes x.first bytes page.commands
  pub inner : AllInner page.commands

-- what `Doc::body` says
abbrev pub Holds : ReadDoc → ℕ → List ℕ → Type 0
Holds r k bytes = (d : Document) → IsDoc r.bytes d → (p : PageOf) × (slice_get d.pages k ≡ Some p) × Lexes p.first bytes p.commands × AllInner p.commands

pub found : OneDocument → (r : ReadDoc) (d : Document) (k : ℕ) (ps : List Page) (dummy : Page) (bytes : List ℕ) → IsRead r → IsDoc r.bytes d → map page_view ps ≡ r.pages → Holds r k bytes → Found r d k (get_or ps k dummy) bytes
found one r d k ps dummy bytes read is views holds =
    let q = holds d is in
    let seen : page_view (get_or ps k dummy) ≡ outline q.0 = page_found one r d k ps dummy q.0 read is views q.1 in
    record {
      page = q.0;
      there = q.1;
      seen = seen;
      lexed = subst (λ (o : Outline). Lexes o.first bytes q.0.commands) (sym seen) q.2;
      inner = q.3;
    }

-- the commands of a page that was found
pub found_commands : (r : ReadDoc) (d : Document) (k : ℕ) (x : Page) (bytes : List ℕ) → Found r d k x bytes → (cs : List Placed) × Lexes x.first bytes cs × AllInner cs
found_commands r d k x bytes f = (f.page.commands, f.lexed, f.inner)

-- its line and its eop stand in its document
pub found_line : (r : ReadDoc) (d : Document) (k : ℕ) (x : Page) (bytes : List ℕ) → (f : Found r d k x bytes) → page_line (k + 1) x.at x.counts ≡ page_line (k + 1) f.page.at f.page.counts
found_line r d k x bytes f = ap (λ (o : Outline). page_line (k + 1) o.at o.counts) f.seen

pub found_eop : (r : ReadDoc) (d : Document) (k : ℕ) (x : Page) (bytes : List ℕ) → (f : Found r d k x bytes) → x.eop ≡ f.page.eop
found_eop r d k x bytes f = ap (λ (o : Outline). o.eop) f.seen

-- ---- a document has no more pages than bytes

some_spelled : (front : List ℕ) (c : Command) → Spell c front → 0 < length front
some_spelled [] c s = absurd s
some_spelled (x ∷ xs) c s = omega arith

lexes_long : (at : ℕ) (bytes : List ℕ) (cs : List Placed) → Lexes at bytes cs → length cs ≤ length bytes
lexes_long at bytes [] l = omega arith
lexes_long at bytes (c ∷ cs) l =
    let more = lexes_long (at + length l.1) l.2 cs l.5 in
    let some = some_spelled l.1 c.command l.4 in
    omega (arith, more, some, ap length l.3, length-append l.1 l.2)

pages_many : (last : ℤ) (is : List Item) → length (pages_of is) ≤ length (between last is)
pages_many last [] = omega arith
pages_many last (Filler c ∷ is) = let more = pages_many last is in omega (arith, more)
pages_many last (Paged p ∷ is) =
    let more = pages_many (pos p.at) is in
    omega (arith, more, length-append p.commands (placed p.eop Eop ∷ between (pos p.at) is))

pub pages_few : (r : ReadDoc) → IsRead r → length r.pages ≤ length r.bytes
pages_few r (d, is, shows) =
    let f = is.0 in
    let file = is.1 in
    let rest : List Placed = placed f.post (Post f.tail) ∷ (f.behind ++ placed f.ends (PostPost f.post 2) ∷ []) in
    let long = lexes_long 0 file.4 (commands_of f) file.9 in
    let many = pages_many (negsuc 0) f.items in
    let same : length d.pages ≡ length (pages_of f.items) = ap (λ (x : Document). length x.pages) (sym is.2) in
    omega (arith, ap length shows.1, length-map d.pages outline, same, many, long, length-append (between (negsuc 0) f.items) rest, ap length file.6, length-append file.4 file.5)

-- ---- a page begins

pub begun_stands : (set : FontSet) (old new : State) (st : Standing) → new.pos ≡ origin → new.font ≡ None → new.saved.items ≡ [] → Stands set old st → Stands set new (page_start st.known)
begun_stands set old new st place font saved h =
    record {
      place = sym place;
      font = subst (λ (o : Option Selected). IsSelected set o None) (sym font) tt;
      pushes = ap reverse (sym saved);
      known = h.known;
    }

is_page : (s : Setting) (d : Bool) (i : ℕ) (p : PageOf) (known : List Key) (o : Option PageOf) (line : List ℕ) (n : ℕ) → o ≡ Some p → line ≡ page_line (i + 1) p.at p.counts → n ≡ p.eop → then_text line (commands_run s d (p.commands ++ record { place = n; command = Eop } ∷ []) (page_start known)) ≡ page_run s d i o known
is_page s d i p known o line n e f g =
    ap (λ (x : List ℕ). then_text x (commands_run s d (p.commands ++ record { place = n; command = Eop } ∷ []) (page_start known))) f
    ∙ ap (λ (m : ℕ). then_text (page_line (i + 1) p.at p.counts) (commands_run s d (p.commands ++ record { place = m; command = Eop } ∷ []) (page_start known))) g
    ∙ ap (λ (x : Option PageOf). page_run s d i x known) (sym e)

module _ (f : Fraction) (ds : List Definition) (F G : FontSet) (l : Extends F G) (d : Bool) where
  abbrev one : Setting
  one = setting f ds F

  abbrev two : Setting
  two = setting f ds G

  -- a page: its line, its commands, its eop
  pub page_ran : (i : ℕ) (p : PageOf) (known : List Key) (o : Option PageOf) (line : List ℕ) (n : ℕ) (old new : State) (first now late : Seen) (kept next text : List ℕ) → o ≡ Some p → line ≡ page_line (i + 1) p.at p.counts → n ≡ p.eop → (r : Ran (commands_run one d p.commands (page_start known)) F old first now kept (text ++ line)) → Went two d (record { place = n; command = Eop }) r.behind G new first late next ((text ++ line) ++ (commands_run one d p.commands (page_start known)).text) → Ran (page_run two d i o known) G new first late next text
  page_ran i p known o line n old new first now late kept next text e g h r w =
      let eop : Placed = record { place = n; command = Eop } in
      ran_is (then_text line (commands_run two d (p.commands ++ eop ∷ []) (page_start known))) (page_run two d i o known) G new first late next text (is_page two d i p known o line n e g h)
      (ran_text line (commands_run two d (p.commands ++ eop ∷ []) (page_start known)) G new first late next text
      (ran_more f ds F G l d p.commands eop (page_start known) old new first now late kept next (text ++ line) r w))

  pub eop_failed : (i : ℕ) (p : PageOf) (known : List Key) (o : Option PageOf) (line : List ℕ) (n : ℕ) (b : Standing) (told_old told_mid told_new : Told) (first late : Seen) (next text : List ℕ) (e : ListFault) → Keeps told_old told_mid → o ≡ Some p → line ≡ page_line (i + 1) p.at p.counts → n ≡ p.eop → (commands_run one d p.commands (page_start known)).course ≡ Ends b → Failed (one_run d (record { place = n; command = Eop }) b (turned two Eop b)) two G told_mid told_new first late next ((text ++ line) ++ (commands_run one d p.commands (page_start known)).text) e → Failed (page_run two d i o known) two G told_old told_new first late next text e
  eop_failed i p known o line n b told_old told_mid told_new first late next text e k is g m ends h =
      let eop : Placed = record { place = n; command = Eop } in
      failed_is two G told_old told_new first late next (then_text line (commands_run two d (p.commands ++ eop ∷ []) (page_start known))) (page_run two d i o known) text e (is_page two d i p known o line n is g m)
      (failed_text two G told_old told_new first late next line (commands_run two d (p.commands ++ eop ∷ []) (page_start known)) text e
      (failed_before two G told_old told_mid told_new k (commands_run two d (p.commands ++ eop ∷ []) (page_start known)) first late next (text ++ line) e
      (failed_more f ds F G l d p.commands eop [] (page_start known) b told_mid told_new first late next (text ++ line) e ends h)))

  -- one page more
  pub pages_more : (ps : List PageOf) (done : List ℕ) (i : ℕ) (st : Standing) (old new : State) (first now late : Seen) (kept next text : List ℕ) → (r : Ran (pages_run one d ps done st) F old first now kept text) → Ran (page_run two d i (slice_get ps i) r.behind.known) G new first late next (text ++ (pages_run one d ps done st).text) → Ran (pages_run two d ps (done ++ i ∷ []) st) G new first late next text
  pages_more ps done i st old new first now late kept next text r w =
      let same = pages_later f (page_fonts ds) (widths_of F) (widths_of G) (widths_later F G l) d ps done st r.behind r.ends in
      let ends : (pages_run two d ps done st).course ≡ Ends r.behind = ap (λ (x : Run). x.course) same ∙ r.ends in
      ran_is (then_run (pages_run two d ps done st) (pages_run two d ps (i ∷ []))) (pages_run two d ps (done ++ i ∷ []) st) G new first late next text (sym (pages_append two d ps done (i ∷ []) st))
      (ran_after (pages_run two d ps done st) (pages_run two d ps (i ∷ [])) r.behind G new first late next text ends
      (ran_is (page_run two d i (slice_get ps i) r.behind.known) (pages_run two d ps (i ∷ []) r.behind) G new first late next (text ++ (pages_run two d ps done st).text) (sym (pages_one two d ps i r.behind))
      (subst (λ (x : Run). Ran (page_run two d i (slice_get ps i) r.behind.known) G new first late next (text ++ x.text)) (sym same) w)))

  pub pages_stop : (ps : List PageOf) (done : List ℕ) (i : ℕ) (rest all : List ℕ) (st b : Standing) (told_old told_mid told_new : Told) (first late : Seen) (next text : List ℕ) (e : ListFault) → Keeps told_old told_mid → done ++ i ∷ rest ≡ all → (pages_run one d ps done st).course ≡ Ends b → Failed (page_run two d i (slice_get ps i) b.known) two G told_mid told_new first late next (text ++ (pages_run one d ps done st).text) e → Failed (pages_run two d ps all st) two G told_old told_new first late next text e
  pages_stop ps done i rest all st b told_old told_mid told_new first late next text e k split ended h =
      let same = pages_later f (page_fonts ds) (widths_of F) (widths_of G) (widths_later F G l) d ps done st b ended in
      let ends : (pages_run two d ps done st).course ≡ Ends b = ap (λ (x : Run). x.course) same ∙ ended in
      failed_before two G told_old told_mid told_new k (pages_run two d ps all st) first late next text e
      (failed_is two G told_mid told_new first late next (then_run (pages_run two d ps done st) (pages_run two d ps (i ∷ rest))) (pages_run two d ps all st) text e (sym (pages_append two d ps done (i ∷ rest) st) ∙ ap (λ (xs : List ℕ). pages_run two d ps xs st) split)
      (failed_after two G told_mid told_new first late next (pages_run two d ps done st) (pages_run two d ps (i ∷ rest)) b text e ends
      (failed_is two G told_mid told_new first late next (then_run (page_run two d i (slice_get ps i) b.known) (pages_run two d ps rest)) (pages_run two d ps (i ∷ rest) b) (text ++ (pages_run two d ps done st).text) e (sym (pages_first two d ps i rest b))
      (failed_first two G told_mid told_new first late next (page_run two d i (slice_get ps i) b.known) (pages_run two d ps rest) (text ++ (pages_run two d ps done st).text) e
      (subst (λ (x : Run). Failed (page_run two d i (slice_get ps i) b.known) two G told_mid told_new first late next (text ++ x.text) e) (sym same) h)))))

-- ---- faults on the way of a page

module _ (s : Setting) (G : FontSet) (told_old told_new : Told) (d : Bool) (i : ℕ) (p : PageOf) (known : List Key) (o : Option PageOf) (is : o ≡ Some p) (line : List ℕ) (shown : line ≡ page_line (i + 1) p.at p.counts) (first late : Seen) (next text : List ℕ) where
  -- at one of its commands
  pub inside_failed : (e : ListFault) → Failed (commands_run s d p.commands (page_start known)) s G told_old told_new first late next (text ++ line) e → Failed (page_run s d i o known) s G told_old told_new first late next text e
  inside_failed e h =
      let eop : Placed = record { place = p.eop; command = Eop } in
      failed_is s G told_old told_new first late next (then_text line (commands_run s d (page_commands p) (page_start known))) (page_run s d i o known) text e (is_page s d i p known o line p.eop is shown refl)
      (failed_text s G told_old told_new first late next line (commands_run s d (page_commands p) (page_start known)) text e
      (failed_is s G told_old told_new first late next (then_run (commands_run s d p.commands (page_start known)) (commands_run s d (eop ∷ []))) (commands_run s d (page_commands p) (page_start known)) (text ++ line) e (sym (run_append s d p.commands (eop ∷ []) (page_start known)))
      (failed_first s G told_old told_new first late next (commands_run s d p.commands (page_start known)) (commands_run s d (eop ∷ [])) (text ++ line) e h)))

  -- at its line
  pub line_cut : Cut first late (text ++ line) → Failed (page_run s d i o known) s G told_old told_new first late next text fault.WriteFault
  line_cut h =
      let rest = (commands_run s d (page_commands p) (page_start known)).text in
      subst (λ (x : Run). Cut first late (text ++ x.text)) (is_page s d i p known o line p.eop is shown refl)
      (cut_longer first late (text ++ line) rest (text ++ (line ++ rest)) (append_assoc text line rest) h)

-- an element with those before it and those behind it
pub one_split : (xs : List ℕ) (i : ℕ) → i < length xs → take i xs ++ get_or xs i 0 ∷ drop (i + 1) xs ≡ xs
one_split xs i l =
    sym (append_assoc (take i xs) (get_or xs i 0 ∷ []) (drop (i + 1) xs))
    ∙ ap (λ (ys : List ℕ). ys ++ drop (i + 1) xs) (sym (take_more xs i 0 l))
    ∙ take-append-drop (i + 1) xs

-- ---- the whole listing

pub pages_start : (s : Setting) (d : Bool) (ps : List PageOf) (st : Standing) (set : FontSet) (state : State) (first now : Seen) (kept text : List ℕ) → Stands set state st → Gathered first now kept text → Ran (pages_run s d ps [] st) set state first now kept text
pages_start s d ps st set state first now kept text h g =
    ran_is (record { text = []; course = Ends st }) (pages_run s d ps [] st) set state first now kept text (sym (pages_none s d ps st))
    (record { behind = st; ends = refl; stands = h; gathered = gathered_is first now kept text (text ++ []) (sym (append-nil text)) g })

-- what was read is the document's, so its head is
pub head_is : OneDocument → (r : ReadDoc) (d : Document) (mag : ℤ) → IsRead r → IsDoc r.bytes d → head_text r.head mag (length r.pages) ++ font_lines r.fonts ≡ head_text d.head mag (length d.pages) ++ font_lines d.fonts
head_is one r d mag (e, is, shows) h =
    let doc : e ≡ d = one r.bytes e d is h in
    let pages : length r.pages ≡ length e.pages = ap length shows.1 ∙ length-map e.pages outline in
    ap (λ (x : Preamble). head_text x mag (length r.pages) ++ font_lines r.fonts) shows.0
    ∙ ap (λ (n : ℕ). head_text e.head mag n ++ font_lines r.fonts) pages
    ∙ ap (λ (xs : List Definition). head_text e.head mag (length e.pages) ++ font_lines xs) shows.3
    ∙ ap (λ (x : Document). head_text x.head mag (length x.pages) ++ font_lines x.fonts) doc

module _ (s : Setting) (d : Bool) (doc : Document) (mag : ℤ) (places : List ℕ) where
  abbrev front : List ℕ
  front = head_text doc.head mag (length doc.pages) ++ font_lines doc.fonts

  abbrev body : Run
  body = then_run (pages_run s d doc.pages places (page_start [])) (done_run (length places))

  is_listing : listing s d doc mag places ≡ then_text front body
  unfolding listing
  is_listing = refl

  -- the head is cut
  pub head_cut : (first now : Seen) (text more : List ℕ) → text ++ more ≡ front → Cut first now text → Cut first now ([] ++ (listing s d doc mag places).text)
  unfolding listing
  head_cut first now text more e c =
      cut_longer first now text (more ++ body.text) (front ++ body.text) (sym (append_assoc text more body.text) ∙ ap (λ (x : List ℕ). x ++ body.text) e) c

  -- a page fails
  pub pages_cut : (G : FontSet) (told_old told_new : Told) (first now : Seen) (kept : List ℕ) (e : ListFault) → Failed (pages_run s d doc.pages places (page_start [])) s G told_old told_new first now kept front e → Failed (listing s d doc mag places) s G told_old told_new first now kept [] e
  pages_cut G told_old told_new first now kept e h =
      failed_is s G told_old told_new first now kept (then_text front body) (listing s d doc mag places) [] e (sym is_listing)
      (failed_text s G told_old told_new first now kept front body [] e
      (failed_first s G told_old told_new first now kept (pages_run s d doc.pages places (page_start [])) (done_run (length places)) front e h))

  whole_text : (b : Standing) → (pages_run s d doc.pages places (page_start [])).course ≡ Ends b → listing s d doc mag places ≡ record { text = front ++ ((pages_run s d doc.pages places (page_start [])).text ++ done_line (length places)); course = Ends b }
  unfolding listing
  whole_text b e = ap (then_text front) (then_ends (pages_run s d doc.pages places (page_start [])) b (done_run (length places)) e)

  -- the last line is cut
  pub done_cut : (first now : Seen) (b : Standing) → (pages_run s d doc.pages places (page_start [])).course ≡ Ends b → Cut first now ((front ++ (pages_run s d doc.pages places (page_start [])).text) ++ done_line (length places)) → Cut first now ([] ++ (listing s d doc mag places).text)
  done_cut first now b e c =
      let r = pages_run s d doc.pages places (page_start []) in
      subst (λ (x : Run). Cut first now x.text) (sym (whole_text b e))
      (cut_is first now ((front ++ r.text) ++ done_line (length places)) (front ++ (r.text ++ done_line (length places))) (append_assoc front r.text (done_line (length places))) c)

  -- all is gathered
  pub all_done : (first now : Seen) (kept : List ℕ) (b : Standing) → (pages_run s d doc.pages places (page_start [])).course ≡ Ends b → Gathered first now kept ((front ++ (pages_run s d doc.pages places (page_start [])).text) ++ done_line (length places)) → Finished (listing s d doc mag places) first now kept []
  all_done first now kept b e g =
      let r = pages_run s d doc.pages places (page_start []) in
      subst (λ (x : Run). Finished x first now kept []) (sym (whole_text b e))
      (record { standing = b; ends = refl; gathered = gathered_is first now kept ((front ++ r.text) ++ done_line (length places)) (front ++ (r.text ++ done_line (length places))) (append_assoc front r.text (done_line (length places))) g })
