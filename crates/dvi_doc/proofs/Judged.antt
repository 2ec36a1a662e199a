-- A file's parts compared with one another: a document, or a fault.
use Rattle.std.proofs.Common.{◌≡◌, ◌≤◌, ◌<◌, ◌+◌, ◌-◌, ◌%◌, ℕ, zero, suc, ℤ, pos, negsuc, List, [], ◌∷◌, ◌++◌, length, map, take, drop, refl, sym, ap, subst, ◌∙◌, arith, slice_range, get_or, Some, length-append}
use Rattle.std.specs.Prelude.{slice_get}
use Rattle.std.specs.List.{Contains}
use Rattle.std.proofs.lemmas.List.{length-map, append_assoc, drop_at, length-drop}
use Rattle.std.proofs.Math.Seq.{drop-drop, take-append-add}
use Rattle.dvi_ops.specs.Command.Command.{Bop, Eop, Pre, Post, PostPost}
use Rattle.dvi_doc.proofs.Lexing.{lex_split}
use Rattle.dvi_doc.specs.declared.page.Page.{Page}
use Rattle.dvi_doc.specs.declared.font_def.FontDef.{FontDef}
use Rattle.dvi_ops.specs.Command.{Definition, Preamble, Postamble}
use Rattle.dvi_ops.specs.Laws.{OneSpelling}
use Rattle.dvi_ops.specs.View.{head_view, tail_view}
use Rattle.dvi_ops.specs.Placed.{Placed, Lexes}
use Rattle.dvi_doc.specs.Document.{placed, PageOf, Item, File, Document, between, pages_of, document_of}
use Rattle.dvi_doc.specs.Document.Item.{Filler, Paged}
use Rattle.dvi_doc.specs.Grammar.{AllInner, AllItems, first_place, IsFile, IsDoc, AreFonts, AllAmong, SameUnits, DefinesTwice, IsNamed, IsSized}
use Rattle.dvi_doc.specs.View.{Outline, outline, page_view, IsRead}
use Rattle.dvi_doc.specs.Faults.{FaultIn, FontFault, SomeFont}
use Rattle.dvi_doc.specs.PartFaults.{Differs, TailFault}
use Rattle.dvi_doc.specs.Standing.{definitions_at, fonts_in}
use Rattle.dvi_doc.specs.Steps.{FoundParts}
use Rattle.dvi_doc.specs.declared.parts.Parts.{Parts}
use Rattle.dvi_doc.specs.declared.fault.DocFault.{DocFault}
use Rattle.dvi_doc.specs.declared.fault.DocFault.TheVariants as fault

pub font_fault : (bytes : List ℕ) (p : Parts) (e : DocFault) → FoundParts bytes p → FontFault (fonts_in p.fonts) e → FaultIn bytes e
font_fault bytes p (fault.FontTwice k) f h = (f.0, f.1, subst (λ (ds : List Definition). DefinesTwice ds k) f.2.4 h)
font_fault bytes p (fault.BadName k) f h = (f.0, f.1, subst (λ (ds : List Definition). SomeFont ds k IsNamed) f.2.4 h)
font_fault bytes p (fault.BadSize k) f h = (f.0, f.1, subst (λ (ds : List Definition). SomeFont ds k IsSized) f.2.4 h)
font_fault bytes p fault.OutOfMemory f h = tt
font_fault bytes p _ f h = absurd h

-- the same places in the same bytes
pub same_bytes : (bytes : List ℕ) (earlier : List FontDef) (P : List Definition → Type 0) (others : List FontDef) (them : List ℕ) → others ≡ earlier → them ≡ bytes → P (definitions_at them others) → P (definitions_at bytes earlier)
same_bytes bytes earlier P others them same here h =
    subst (λ (fs : List FontDef). P (definitions_at bytes fs)) same (subst (λ (bs : List ℕ). P (definitions_at bs others)) here h)

pub differs_fault : (bytes : List ℕ) (p : Parts) (fonts : List Definition) (e : DocFault) → FoundParts bytes p → fonts ≡ fonts_in p.fonts → Differs fonts (definitions_at bytes p.body.earlier.items) e → FaultIn bytes e
differs_fault bytes p fonts (fault.FontDiffers k) f w h = (
  f.0,
  f.1,
  subst (λ (ds : List Definition). SomeFont ds k (λ d. Contains (document_of f.0).fonts d)) f.2.2
      (subst (λ (fs : List Definition). SomeFont (definitions_at bytes p.body.earlier.items) k (λ d. Contains fs d)) (w ∙ f.2.4) h),
)
differs_fault bytes p fonts _ f w h = absurd h

pages_count : (bytes : List ℕ) (p : Parts) (f : FoundParts bytes p) → length p.body.pages.items ≡ length (document_of f.0).pages
pages_count bytes p f =
    sym (length-map p.body.pages.items page_view) ∙ ap length f.2.1 ∙ length-map (document_of f.0).pages outline

pub tail_fault : (bytes : List ℕ) (p : Parts) (pages : ℕ) (e : DocFault) → FoundParts bytes p → pages ≡ length p.body.pages.items → TailFault (head_view p.head) (tail_view p.body.tail) pages e → FaultIn bytes e
tail_fault bytes p pages (fault.PageCount found told) f w h =
    (f.0, f.1, (h.0 ∙ ap (λ (n : ℕ). n % 65536) (w ∙ pages_count bytes p f), h.1 ∙ ap (λ (t : Postamble). t.pages) f.2.3, h.2))
tail_fault bytes p pages fault.PostDiffers f w h =
    (f.0, f.1, subst (λ (t : Postamble). SameUnits (document_of f.0).head t → ⊥) f.2.3 (subst (λ (d : Preamble). SameUnits d (tail_view p.body.tail) → ⊥) f.2.0 h))
tail_fault bytes p pages _ f w h = absurd h

pub doc_found : (bytes : List ℕ) (p : Parts) (fonts : List Definition) (pages : ℕ) → FoundParts bytes p → fonts ≡ fonts_in p.fonts → AreFonts fonts → AllAmong fonts (definitions_at bytes p.body.earlier.items) → pages ≡ length p.body.pages.items → (pages % 65536 ≡ p.body.tail.pages) × SameUnits (head_view p.head) (tail_view p.body.tail) →
    IsRead (record { bytes = bytes; head = head_view p.head; pages = map page_view p.body.pages.items; tail = tail_view p.body.tail; fonts = fonts })
doc_found bytes p fonts pages f w good among n tail =
    let doc = document_of f.0 in
    let is : fonts ≡ doc.fonts = w ∙ f.2.4 in
    let same_units : SameUnits doc.head doc.tail = subst (λ (t : Postamble). SameUnits doc.head t) f.2.3 (subst (λ (d : Preamble). SameUnits d (tail_view p.body.tail)) f.2.0 tail.1) in
    let count : length doc.pages % 65536 ≡ doc.tail.pages = ap (λ (m : ℕ). m % 65536) (sym (n ∙ pages_count bytes p f)) ∙ tail.0 ∙ ap (λ (t : Postamble). t.pages) f.2.3 in
    let all : AllAmong doc.fonts doc.before = subst (λ (ds : List Definition). AllAmong doc.fonts ds) f.2.2 (subst (λ (fs : List Definition). AllAmong fs (definitions_at bytes p.body.earlier.items)) is among) in
    (doc, (f.0, f.1, refl, (subst (λ (ds : List Definition). AreFonts ds) is good, all, count, same_units)), (f.2.0, f.2.1, f.2.3, is))

-- ---- the bytes of a page

-- what stands at a place of the bytes ends before their end
pages_inside : (is : List Item) (last : ℤ) (at : ℕ) (xs : List ℕ) (k : ℕ) (p : PageOf) → AllItems is → Lexes at xs (between last is) → slice_get (pages_of is) k ≡ Some p →
    (before : List Placed) × (behind : List Placed) × (between last is ≡ before ++ (p.commands ++ behind)) × (first_place (p.commands ++ behind) 0 ≡ p.first) × ((more : List Placed) × (behind ≡ placed p.eop Eop ∷ more))
pages_inside [] last at xs k p h l e = absurd cc
pages_inside (Filler c ∷ is) last at xs k p h l e =
    let r = pages_inside is last (at + length l.1) l.2 k p h.1 l.5 e in
    (c ∷ r.0, r.1, ap (λ (m : List Placed). c ∷ m) r.2, r.3, r.4)
pages_inside (Paged q ∷ is) last at xs zero p h l e =
    let same : q ≡ p = cc in
    let bop : List Placed = placed q.at (Bop q.counts last) ∷ [] in
    let tail : List Placed = placed q.eop Eop ∷ between (pos q.at) is in
    subst (λ (x : PageOf). (before : List Placed) × (behind : List Placed) × (between last (Paged q ∷ is) ≡ before ++ (x.commands ++ behind)) × (first_place (x.commands ++ behind) 0 ≡ x.first) × ((more : List Placed) × (behind ≡ placed x.eop Eop ∷ more))) same
    (bop, tail, refl, first_of q.commands q.eop (between (pos q.at) is) ∙ sym h.1, (between (pos q.at) is, refl))
  where
    first_of : (cs : List Placed) (eop : ℕ) (more : List Placed) → first_place (cs ++ placed eop Eop ∷ more) 0 ≡ first_place cs eop
    first_of [] eop more = refl
    first_of (c ∷ cs) eop more = refl
pages_inside (Paged q ∷ is) last at xs (suc k) p h l e =
    let front : List Placed = placed q.at (Bop q.counts last) ∷ (q.commands ++ placed q.eop Eop ∷ []) in
    let s = lex_split front (between (pos q.at) is) at xs (subst (λ (m : List Placed). Lexes at xs m) (sym (whole q (between (pos q.at) is) last)) l) in
    let r = pages_inside is (pos q.at) (at + length s.0) s.1 k p h.2 s.4 e in
    (front ++ r.0, r.1, sym (whole q (between (pos q.at) is) last) ∙ ap (λ (m : List Placed). front ++ m) r.2 ∙ sym (append_assoc front r.0 (p.commands ++ r.1)), r.3, r.4)
  where
    whole : (q : PageOf) (more : List Placed) (last : ℤ) → (placed q.at (Bop q.counts last) ∷ (q.commands ++ placed q.eop Eop ∷ [])) ++ more ≡ placed q.at (Bop q.counts last) ∷ (q.commands ++ placed q.eop Eop ∷ more)
    whole q more last = ap (λ (m : List Placed). placed q.at (Bop q.counts last) ∷ m) (append_assoc q.commands (placed q.eop Eop ∷ []) more)

-- the bytes between a page's bop and its eop are its commands
page_bytes : (cs more : List Placed) (eop at : ℕ) (ys rest : List ℕ) (bytes : List ℕ) → at ≤ length bytes → drop at bytes ≡ ys ++ rest → Lexes at ys (cs ++ placed eop Eop ∷ more) → (at ≤ eop) × (eop ≤ length bytes) × Lexes at (slice_range bytes at eop) cs
page_bytes [] more eop at ys rest bytes b e l =
    let here : eop ≡ at = l.0 in
    let none : eop - at ≡ 0 = omega arith in
    (omega arith, omega arith, ap (λ (n : ℕ). take n (drop at bytes)) none)
page_bytes (c ∷ cs) more eop at ys rest bytes b e l =
    let next = at + length l.1 in
    let joined : drop at bytes ≡ l.1 ++ (l.2 ++ rest) = e ∙ ap (λ (zs : List ℕ). zs ++ rest) l.3 ∙ append_assoc l.1 l.2 rest in
    let behind : drop next bytes ≡ l.2 ++ rest = sym (drop-drop (length l.1) at bytes) ∙ ap (drop (length l.1)) joined ∙ drop_at l.1 (l.2 ++ rest) (length l.1) refl in
    let inside : next ≤ length bytes = omega (arith, ap length joined, length-append l.1 (l.2 ++ rest), length-drop at bytes) in
    let r = page_bytes cs more eop next l.2 rest bytes inside behind l.5 in
    let wide : eop - at ≡ length l.1 + (eop - next) = omega (arith, r.0) in
    let parts : slice_range bytes at eop ≡ l.1 ++ slice_range bytes next eop =
    ap (λ (k : ℕ). take k (drop at bytes)) wide ∙ ap (take (length l.1 + (eop - next))) joined ∙ take-append-add l.1 (l.2 ++ rest) (eop - next) ∙ ap (λ (zs : List ℕ). l.1 ++ take (eop - next) zs) (sym behind) in
    (omega (arith, r.0), r.1, (l.0, l.1, slice_range bytes next eop, parts, l.4, r.2))

first_at : (cs : List Placed) (at : ℕ) (xs : List ℕ) (eop : ℕ) (more : List Placed) → Lexes at xs (cs ++ placed eop Eop ∷ more) → first_place (cs ++ placed eop Eop ∷ more) 0 ≡ at
first_at [] at xs eop more l = l.0
first_at (c ∷ cs) at xs eop more l = l.0

pub page_lexes : (bytes : List ℕ) (f : File) (k : ℕ) (p : PageOf) → IsFile bytes f → slice_get (pages_of f.items) k ≡ Some p → (p.first ≤ p.eop) × (p.eop ≤ length bytes) × Lexes p.first (slice_range bytes p.first p.eop) p.commands
page_lexes bytes f k p h e =
    let pre : List Placed = placed 0 (Pre f.head) ∷ [] in
    let rest : List Placed = placed f.post (Post f.tail) ∷ (f.behind ++ placed f.ends (PostPost f.post 2) ∷ []) in
    let a = lex_split pre (between (negsuc 0) f.items ++ rest) 0 h.4 h.9 in
    let b = lex_split (between (negsuc 0) f.items) rest (0 + length a.0) a.1 a.4 in
    let r = pages_inside f.items (negsuc 0) (0 + length a.0) b.0 k p h.1 b.3 e in
    let c = lex_split r.0 (p.commands ++ r.1) (0 + length a.0) b.0 (subst (λ (m : List Placed). Lexes (0 + length a.0) b.0 m) r.2 b.3) in
    let start = 0 + length a.0 + length c.0 in
    let held : Lexes start c.1 (p.commands ++ placed p.eop Eop ∷ r.4.0) = subst (λ (m : List Placed). Lexes start c.1 (p.commands ++ m)) r.4.1 c.4 in
    let first : p.first ≡ start = sym r.3 ∙ ap (λ (m : List Placed). first_place (p.commands ++ m) 0) r.4.1 ∙ first_at p.commands start c.1 p.eop r.4.0 held in
    let front : List ℕ = a.0 ++ c.0 in
    let back : List ℕ = b.1 ++ h.5 in
    let all : bytes ≡ front ++ (c.1 ++ back) =
    h.6 ∙ ap (λ (m : List ℕ). m ++ h.5) a.2 ∙ ap (λ (m : List ℕ). (a.0 ++ m) ++ h.5) (b.2 ∙ ap (λ (m : List ℕ). m ++ b.1) c.2) ∙ regroup a.0 c.0 c.1 b.1 h.5 in
    let width : length front ≡ start = omega (arith, length-append a.0 c.0) in
    let behind : drop start bytes ≡ c.1 ++ back = ap (drop start) all ∙ drop_at front (c.1 ++ back) start width in
    let inside : start ≤ length bytes = omega (arith, ap length all, length-append front (c.1 ++ back)) in
    let x = page_bytes p.commands r.4.0 p.eop start c.1 back bytes inside behind held in
    subst (λ (n : ℕ). (n ≤ p.eop) × (p.eop ≤ length bytes) × Lexes n (slice_range bytes n p.eop) p.commands) (sym first) x
  where
    regroup : (a c d b e : List ℕ) → (a ++ ((c ++ d) ++ b)) ++ e ≡ (a ++ c) ++ (d ++ (b ++ e))
    regroup a c d b e =
        append_assoc a ((c ++ d) ++ b) e ∙ ap (λ (m : List ℕ). a ++ m) (append_assoc (c ++ d) b e ∙ append_assoc c d (b ++ e)) ∙ sym (append_assoc a c (d ++ (b ++ e)))

-- the outline of a page by its number is that of the document's page
outline_of_page : (ps : List PageOf) (k : ℕ) (o : Outline) → slice_get (map outline ps) k ≡ Some o → (p : PageOf) × (slice_get ps k ≡ Some p) × (outline p ≡ o)
outline_of_page [] k o e = absurd cc
outline_of_page (p ∷ ps) zero o e = (p, refl, (let same : outline p ≡ o = cc in same))
outline_of_page (p ∷ ps) (suc k) o e = outline_of_page ps k o e

map_get : (xs : List Page) (k : ℕ) (x : Page) → k < length xs → x ≡ get_or xs k x → slice_get (map page_view xs) k ≡ Some (page_view x)
map_get [] k x h e = absurd (omega arith)
map_get (y ∷ xs) zero x h e = ap (λ z. Some (page_view z)) (sym e)
map_get (y ∷ xs) (suc k) x h e = map_get xs k x (omega arith) e

inner_page : (is : List Item) (k : ℕ) (p : PageOf) → AllItems is → slice_get (pages_of is) k ≡ Some p → AllInner p.commands
inner_page [] k p h e = absurd cc
inner_page (Filler c ∷ is) k p h e = inner_page is k p h.1 e
inner_page (Paged q ∷ is) zero p h e = let same : q ≡ p = cc in subst (λ (x : PageOf). AllInner x.commands) same h.0
inner_page (Paged q ∷ is) (suc k) p h e = inner_page is k p h.2 e

-- the page of the code by its number: its bytes, in every document that the bytes are
abbrev pub PageThere : List ℕ → ℕ → Page → Document → Type 0
PageThere bytes k x doc =
    (x.first ≤ x.eop) × (x.eop ≤ length bytes) × ((p : PageOf) × (slice_get doc.pages k ≡ Some p) × Lexes p.first (slice_range bytes x.first x.eop) p.commands × AllInner p.commands)

pub page_there : OneSpelling → (bytes : List ℕ) (doc : Document) (pages : List Page) (k : ℕ) (x : Page) → IsDoc bytes doc → map page_view pages ≡ map outline doc.pages → k < length pages → x ≡ get_or pages k x → PageThere bytes k x doc
page_there one bytes doc pages k x d e h g =
    let seen : slice_get (map outline doc.pages) k ≡ Some (page_view x) = ap (λ (os : List Outline). slice_get os k) (sym e) ∙ map_get pages k x h g in
    let o = outline_of_page doc.pages k (page_view x) seen in
    let p = o.0 in
    let in_file : slice_get (pages_of d.0.items) k ≡ Some p = ap (λ (y : Document). slice_get y.pages k) d.2 ∙ o.1 in
    let l = page_lexes bytes d.0 k p d.1 in_file in
    let first : p.first ≡ x.first = ap (λ (y : Outline). y.first) o.2 in
    let eop : p.eop ≡ x.eop = ap (λ (y : Outline). y.eop) o.2 in
    let ranges : slice_range bytes p.first p.eop ≡ slice_range bytes x.first x.eop = ap (λ (n : ℕ). slice_range bytes n p.eop) first ∙ ap (λ (n : ℕ). slice_range bytes x.first n) eop in
    (omega (arith, l.0, first, eop), omega (arith, l.1, eop), (p, o.1, subst (λ (ys : List ℕ). Lexes p.first ys p.commands) ranges l.2, inner_page d.0.items k p d.1.1 in_file))

pub body_bytes : (pages : List Page) (k : ℕ) (x : Page) → k < length pages → x ≡ get_or pages k x → slice_get (map page_view pages) k ≡ Some (page_view x)
body_bytes pages k x h g = map_get pages k x h g
