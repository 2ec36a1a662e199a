-- A document that was read has the pages of the document.
use Rattle.std.proofs.Common.{◌≡◌, ◌<◌, ◌≤◌, ◌^◌, ℕ, ℤ, zero, suc, List, [], ◌∷◌, length, map, get_or, Some, arith, refl, sym, ap, subst, ◌∙◌}
use Rattle.std.specs.Prelude.{slice_get, unsigned_abs}
use Rattle.std.specs.Option.{option_map}
use Rattle.std.proofs.lemmas.List.{length-map}
use Rattle.std.proofs.lemmas.Option.{slice_get-map, get_or_from_slice_get}
use Rattle.std.proofs.Math.ListN.{get_or-map}
use Rattle.dvi_doc.specs.Document.{Document, PageOf}
use Rattle.dvi_doc.specs.Grammar.{IsDoc}
use Rattle.dvi_doc.specs.Laws.{OneDocument}
use Rattle.dvi_doc.specs.View.{IsRead, Outline, ReadDoc, outline, page_view}
use Rattle.dvi_doc.specs.declared.page.Page.{Page}
use Rattle.dv_top.specs.Printing.{label_of}

-- an element at each place
pub there : {X : Type 0} (xs : List X) (k : ℕ) → k < length xs → (x : X) × (slice_get xs k ≡ Some x)
there [] k h = absurd (omega arith)
there (x ∷ xs) zero h = (x, refl)
there (x ∷ xs) (suc k) h = there xs k (omega arith)

-- the program holds as many pages as the document has
pub pages_many : OneDocument → (r : ReadDoc) (d : Document) (ps : List Page) → IsRead r → IsDoc r.bytes d → map page_view ps ≡ r.pages → length d.pages ≡ length ps
pages_many one r d ps (e, is, shows) h views =
    omega (arith, length-map d.pages outline, length-map e.pages outline, ap length shows.1, length-map ps page_view, ap length views, ap (λ (x : Document). length x.pages) (one r.bytes e d is h))

-- the page at a place
pub page_there : OneDocument → (r : ReadDoc) (d : Document) (ps : List Page) (k : ℕ) → IsRead r → IsDoc r.bytes d → map page_view ps ≡ r.pages → k < length ps → (p : PageOf) × (slice_get d.pages k ≡ Some p)
page_there one r d ps k read is views small = there d.pages k (let many = pages_many one r d ps read is views in omega (arith, small, many))

-- the program's page at a place has the counts of the document's
pub page_seen : OneDocument → (r : ReadDoc) (d : Document) (ps : List Page) (k : ℕ) (p : PageOf) (dummy : Page) → IsRead r → IsDoc r.bytes d → map page_view ps ≡ r.pages → slice_get d.pages k ≡ Some p → page_view (get_or ps k dummy) ≡ outline p
page_seen one r d ps k p dummy (e, is, shows) h views at =
    let pages : map page_view ps ≡ map outline d.pages = views ∙ shows.1 ∙ ap (λ (x : Document). map outline x.pages) (one r.bytes e d is h) in
    sym (get_or-map page_view ps k dummy)
    ∙ ap (λ (os : List Outline). get_or os k (page_view dummy)) pages
    ∙ get_or_from_slice_get (map outline d.pages) k (outline p) (page_view dummy) (slice_get-map outline d.pages k ∙ ap (option_map outline) at)

pub label_small : OneDocument → (r : ReadDoc) (d : Document) (ps : List Page) (k : ℕ) (p : PageOf) (dummy : Page) → IsRead r → IsDoc r.bytes d → map page_view ps ≡ r.pages → slice_get d.pages k ≡ Some p
    → unsigned_abs (label_of (get_or ps k dummy).counts) ≤ 2 ^ 31 → unsigned_abs (label_of p.counts) ≤ 2 ^ 31
label_small one r d ps k p dummy read h views at small =
    subst (λ (cs : List ℤ). unsigned_abs (label_of cs) ≤ 2 ^ 31) (ap (λ (o : Outline). o.counts) (page_seen one r d ps k p dummy read h views at)) small
