-- A text whose pages are given by their marks has the events that it owes.
use Rattle.std.proofs.Common.{◌≡◌, refl, ap, sym, ◌∙◌, subst, ℕ, ◌<◌, ◌≤◌, List, [], ◌∷◌, ◌++◌, length, Option, Some, None, arith, Bool, true, false}
use Rattle.std.specs.Prelude.{codes, ℤ, ◌+ℤ◌, ◌&&◌, nat_eq, nat_lt, if◌then◌else◌}
use Rattle.std.proofs.lemmas.List.{length-append}
use Rattle.std.proofs.lemmas.Bool.Decides.{nat_tests}
use Rattle.ps_subset.specs.Fraction.{same_ℤ}
use Rattle.ps_subset.specs.State.{Event, Note, Block, PutArray, FontMade, Shown, in_order}
use Rattle.ps_subset.specs.Run.{events}
use Rattle.ps_subset.specs.Job.{Job}
use Rattle.ps_subset.specs.Lines.{comment_events, head_events}
use Rattle.ps_subset.specs.Fonts.{Letter, Font, font_name, string_end}
use Rattle.ps_subset.specs.Printout as printout
use Rattle.ps_subset.specs.Items as item
use Rattle.ps_subset.specs.Items.{Item, Rule, items_events, font_in, IsIn, AllIn, IsSmall, AllGoodItems, IsGoodItem}
use Rattle.ps_subset.specs.FontText.{letters_events, fonts_events, fonts_held}
use Rattle.ps_subset.specs.Blocks.{headers_events}
use Rattle.ps_subset.specs.Printout.{page_comment, text_of, events_of, IsGoodText}
use Rattle.ps_subset.specs.Marks.{Mark, Glyph, Bar, Passed, Open, goes_on, opened, joined, closed, flushed, grouped, without_texts}
use Rattle.ps_subset.specs.Marked.{Page, Section, MarkedPrintout, page_of, pages_of, section_of, sections_of, printout_of, pages_owed, sections_owed, owed, IsGoodMark, AllGoodMarks, AllGoodPages, AllGoodSections, IsGoodMarked, EventsOfMarks, EventsOfCutMarks}
use Rattle.ps_subset.proofs.Numbers.{and_right}
use Rattle.ps_subset.proofs.Runs.{events_of_prefix}
use Rattle.ps_subset.proofs.Marks.{texts-append, goes_on_is, items_of_marks, end_append}
use Rattle.ps_subset.proofs.Printouts.{events_of_printout}

-- events in which nothing is a string
texts_kept-append : (xs ys : List Event) {xs' ys' : List Event} → without_texts xs ≡ xs' → without_texts ys ≡ ys' → without_texts (xs ++ ys) ≡ xs' ++ ys'
texts_kept-append xs ys h k = texts-append xs ys ∙ (λ i. h i ++ k i)

comment_kept : (comments : Bool) (bytes : List ℕ) → without_texts (comment_events comments bytes) ≡ comment_events comments bytes
comment_kept true bytes = refl
comment_kept false bytes = refl

head_kept : (cs : List (List ℕ)) → without_texts (head_events cs) ≡ head_events cs
head_kept [] = refl
head_kept (c ∷ cs) = ap (λ es. Note c ∷ es) (head_kept cs)

headers_kept : (hs : List (List ℕ)) → without_texts (headers_events hs) ≡ headers_events hs
headers_kept [] = refl
headers_kept (h ∷ hs) = ap (λ es. Block h ∷ es) (headers_kept hs)

letters_kept : (ls : List Letter) → without_texts (letters_events ls) ≡ letters_events ls
letters_kept [] = refl
letters_kept (l ∷ ls) = ap (λ es. PutArray l.code ∷ es) (letters_kept ls)

fonts_kept : (fs : List Font) → without_texts (fonts_events fs) ≡ fonts_events fs
fonts_kept [] = refl
fonts_kept (f ∷ fs) = texts_kept-append (letters_events f.letters ++ FontMade (font_name f.id) ∷ []) _ (texts_kept-append (letters_events f.letters) (FontMade (font_name f.id) ∷ []) (letters_kept f.letters) refl) (fonts_kept fs)

pages_kept : (comments : Bool) (copies : ℕ) (j : Job) (fonts : List Font) (ps : List Page) → without_texts (printout.pages_events comments copies j fonts (pages_of ps)) ≡ pages_owed comments copies j fonts ps
pages_kept comments copies j fonts [] = refl
pages_kept comments copies j fonts (p ∷ ps) =
    texts_kept-append (printout.page_events comments copies j fonts (page_of p)) _
    (texts_kept-append (comment_events comments (page_comment (page_of p))) _ (comment_kept comments (page_comment (page_of p)))
    (texts_kept-append (items_events j (grouped None p.marks)) (Shown copies (in_order (fonts_held fonts)) ∷ []) (items_of_marks j p.marks) refl))
    (pages_kept comments copies j fonts ps)

sections_kept : (comments : Bool) (copies : ℕ) (j : Job) (ss : List Section) → without_texts (printout.sections_events comments copies j (sections_of ss)) ≡ sections_owed comments copies j ss
sections_kept comments copies j [] = refl
sections_kept comments copies j (s ∷ ss) =
    texts_kept-append (printout.section_events comments copies j (section_of s)) _
    (texts_kept-append (fonts_events s.fonts) _ (fonts_kept s.fonts) (pages_kept comments copies j s.fonts s.pages)) (sections_kept comments copies j ss)

all_kept : (t : MarkedPrintout) → without_texts (events_of (printout_of t)) ≡ owed t
all_kept t =
    let c = comment_kept t.comments in
    texts_kept-append (head_events t.head) _ (head_kept t.head)
    (texts_kept-append (comment_events t.comments (codes "%%BeginProlog")) _ (c (codes "%%BeginProlog"))
    (texts_kept-append (headers_events t.headers) _ (headers_kept t.headers)
    (texts_kept-append (comment_events t.comments (codes "%%EndProlog")) _ (c (codes "%%EndProlog"))
    (texts_kept-append (comment_events t.comments (codes "%%BeginSetup")) _ (c (codes "%%BeginSetup"))
    (texts_kept-append (comment_events t.comments (codes "%%EndSetup")) _ (c (codes "%%EndSetup"))
    (texts_kept-append (printout.sections_events t.comments t.copies t.job (sections_of t.sections)) _ (sections_kept t.comments t.copies t.job t.sections)
    (texts_kept-append (comment_events t.comments (codes "%%Trailer")) _ (c (codes "%%Trailer")) (c (codes "%%EOF")))))))))

-- an open stretch is good
pub record IsGoodOpen (fonts : List Font) (o : Open) : Type 0 where
  pub x : IsSmall o.x
  pub y : IsSmall o.y
  pub end : IsSmall (string_end o.x o.letters)
  pub few : length o.letters ≤ 50
  pub font : Font
  pub font_is : font_in fonts o.font ≡ Some font
  pub inside : AllIn o.letters font.letters

abbrev IsGoodStretch : List Font → Option Open → Type 0
IsGoodStretch fonts None = Unit {0}
IsGoodStretch fonts (Some o) = IsGoodOpen fonts o

good_item : {fonts : List Font} (o : Open) → IsGoodOpen fonts o → IsGoodItem fonts (closed o)
good_item o g = (g.x, g.y, g.end, g.few, (g.font, g.font_is, g.inside))

good_flushed : (fonts : List Font) (s : Option Open) (is : List Item) → IsGoodStretch fonts s → AllGoodItems fonts is → AllGoodItems fonts (flushed s is)
good_flushed fonts None is g all = all
good_flushed fonts (Some o) is g all = (good_item o g, all)

in_append : (ls : List Letter) (l : Letter) (xs : List Letter) → AllIn ls xs → IsIn l xs → AllIn (ls ++ l ∷ []) xs
in_append [] l xs all i = (i, tt)
in_append (k ∷ ls) l xs all i = (all.0, in_append ls l xs all.1 i)

fewer : (o : Open) (id : ℕ) (x y : ℤ) → goes_on o id x y ≡ true → length o.letters < 50
fewer o id x y h =
    let a = nat_eq o.font id in
    let b = same_ℤ o.y y in
    let c = same_ℤ (string_end o.x o.letters) x in
    let d = nat_lt (length o.letters) 50 in
    let e : nat_lt (length o.letters) 50 ≡ true = and_right c d (and_right b (c && d) (and_right a (b && (c && d)) h)) in
    grind (arith, nat_tests, e)

good_opened : {fonts : List Font} (id : ℕ) (l : Letter) (x y : ℤ) → IsGoodMark fonts (Glyph id l x y) → IsGoodOpen fonts (opened id l x y)
good_opened id l x y g = record { x = g.0; y = g.1; end = g.2; few = omega arith; font = (g.3).0; font_is = (g.3).1; inside = ((g.3).2, tt) }

good_joined : {fonts : List Font} (o : Open) (id : ℕ) (l : Letter) (x y : ℤ) → goes_on o id x y ≡ true → IsGoodOpen fonts o → IsGoodMark fonts (Glyph id l x y) → IsGoodOpen fonts (joined o l)
good_joined {fonts} o id l x y h g m =
    let p = goes_on_is o id x y h in
    let few = fewer o id x y h in
    let n = length-append o.letters (l ∷ []) in
    let same : (m.3).0 ≡ g.font = grind (arith, sym (m.3).1, ap (font_in fonts) (p.0), g.font_is) in
    record {
      x = g.x;
      y = g.y;
      end = subst IsSmall (ap (λ z. z +ℤ l.glyph.width) (sym p.2) ∙ sym (end_append o.x o.letters l)) m.2;
      few = omega (arith, few, n);
      font = g.font;
      font_is = g.font_is;
      inside = in_append o.letters l (g.font).letters g.inside (subst (λ (f : Font). IsIn l f.letters) same (m.3).2);
    }

good_items : (fonts : List Font) (ms : List Mark) (s : Option Open) → IsGoodStretch fonts s → AllGoodMarks fonts ms → AllGoodItems fonts (grouped s ms)
good_items fonts [] None g all = tt
good_items fonts [] (Some o) g all = (good_item o g, tt)
good_items fonts (Glyph id l x y ∷ ms) None g all = good_items fonts ms (Some (opened id l x y)) (good_opened id l x y all.0) all.1
good_items fonts (Glyph id l x y ∷ ms) (Some o) g all =
    go (goes_on o id x y) refl (λ k. good_items fonts ms (Some (joined o l)) k all.1) (good_items fonts ms (Some (opened id l x y)) (good_opened id l x y all.0) all.1)
  where
    go : (b : Bool) → goes_on o id x y ≡ b → (IsGoodOpen fonts (joined o l) → AllGoodItems fonts (grouped (Some (joined o l)) ms)) → AllGoodItems fonts (grouped (Some (opened id l x y)) ms) →
        AllGoodItems fonts (if b then grouped (Some (joined o l)) ms else (closed o ∷ grouped (Some (opened id l x y)) ms))
    go true e one two = one (good_joined o id l x y e g all.0)
    go false e one two = (good_item o g, two)
good_items fonts (Bar columns rows x y ∷ ms) s g all = good_flushed fonts s (Rule columns rows x y ∷ grouped None ms) g (all.0, good_items fonts ms None tt all.1)
good_items fonts (Passed bytes x y ∷ ms) s g all = good_flushed fonts s (item.Block bytes x y ∷ grouped None ms) g (all.0, good_items fonts ms None tt all.1)

good_pages : (fonts : List Font) (ps : List Page) → AllGoodPages fonts ps → printout.AllGoodPages fonts (pages_of ps)
good_pages fonts [] all = tt
good_pages fonts (p ∷ ps) all = (record { label = (all.0).0; number = (all.0).1; items = good_items fonts p.marks None tt (all.0).2 }, good_pages fonts ps all.1)

good_sections : (ss : List Section) → AllGoodSections ss → printout.AllGoodSections (sections_of ss)
good_sections [] all = tt
good_sections (s ∷ ss) all = (record { fonts = (all.0).0; few = (all.0).1; pages = good_pages s.fonts s.pages (all.0).2 }, good_sections ss all.1)

pub good_printed : (t : MarkedPrintout) → IsGoodMarked t → IsGoodText (printout_of t)
good_printed t g = record { head = g.head; headers = g.headers; copies_some = g.copies_some; copies = g.copies; job = g.job; sections = good_sections t.sections g.sections }

pub events_of_marks : EventsOfMarks
events_of_marks t g = (events_of (printout_of t), events_of_printout (printout_of t) (good_printed t g), all_kept t)

pub events_of_cut_marks : EventsOfCutMarks
events_of_cut_marks t g xs ys cut =
    let p = events_of_prefix xs ys (events_of (printout_of t)) (subst (λ bytes. events bytes ≡ Some (events_of (printout_of t))) cut (events_of_printout (printout_of t) (good_printed t g))) in
    (p.0, without_texts p.1, p.2, sym (all_kept t) ∙ ap without_texts p.3 ∙ texts-append p.0 p.1)
