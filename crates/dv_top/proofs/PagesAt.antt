-- The pages of a document at some places.
use Rattle.std.proofs.Common.{◌≡◌, ◌<◌, ℕ, zero, suc, List, [], ◌∷◌, length, map, take, drop, Option, Some, None, arith, refl, sym, ap, subst, ◌∙◌}
use Rattle.std.specs.Prelude.{slice_get}
use Rattle.std.proofs.lemmas.List.{length-map}
use Rattle.dvi_doc.specs.Document.{Document, PageOf}
use Rattle.dvi_doc.specs.Grammar.{IsDoc}
use Rattle.dvi_doc.specs.Laws.{OneDocument}
use Rattle.dvi_doc.specs.View.{IsRead, Outline, ReadDoc, outline}
use Rattle.vf_expand.specs.Page.{IsPage}
use Rattle.dv_top.specs.Each.{Each}
use Rattle.dv_top.specs.Selecting.{ArePages, pages_at, put_page}
use Rattle.dv_top.proofs.DocPages.{there}
use Rattle.dv_top.proofs.Lists.{cons_head, cons_tail, drop_map, each_as, same_some, take_map}

-- as many pages were found as any document of the bytes has
pub page_many : OneDocument → (r : ReadDoc) (d : Document) → IsRead r → IsDoc r.bytes d → length r.pages ≡ length d.pages
page_many one r d (e, is, shows) h =
    ap (λ (xs : List Outline). length xs) shows.1
    ∙ length-map e.pages outline
    ∙ ap (λ (x : Document). length x.pages) (one r.bytes e d is h)

put_there : (o : Option PageOf) (p : PageOf) (xs : List (Option PageOf)) (ps : List PageOf) → o ≡ Some p → xs ≡ map Some ps → o ∷ xs ≡ map Some (put_page o ps)
put_there None p xs ps e h = absurd (cc)
put_there (Some q) p xs ps e h = ap (λ (zs : List (Option PageOf)). Some q ∷ zs) h

-- where all places are there, so are the pages
all_there : (all : List PageOf) (places : List ℕ) → Each (λ k. k < length all) places → map (slice_get all) places ≡ map Some (pages_at all places)
all_there all [] h = refl
all_there all (k ∷ ks) h =
    let p = there all k h.0 in
    put_there (slice_get all k) p.0 (map (slice_get all) ks) (pages_at all ks) p.1 (all_there all ks h.1)

pub pages_here : OneDocument → (r : ReadDoc) (d : Document) (places : List ℕ) → IsRead r → IsDoc r.bytes d → Each (λ k. k < length r.pages) places → ArePages r places (pages_at d.pages places)
pages_here one r d places read is within =
    let many = page_many one r d read is in
    record {
      doc = d;
      is = is;
      at = all_there d.pages places (each_as (λ k. k < length r.pages) (λ k. k < length d.pages) (λ k h. omega (arith, h, many)) places within);
    }

-- and they are these alone
pub at_places : (all : List PageOf) (places : List ℕ) (pages : List PageOf) → map (slice_get all) places ≡ map Some pages → pages_at all places ≡ pages
at_places all [] [] e = refl
at_places all [] (p ∷ ps) e = absurd (cc)
at_places all (k ∷ ks) [] e = absurd (cc)
at_places all (k ∷ ks) (p ∷ ps) e =
    ap (λ (o : Option PageOf). put_page o (pages_at all ks)) (cons_head (slice_get all k) (Some p) (map (slice_get all) ks) (map Some ps) e)
    ∙ ap (λ (qs : List PageOf). p ∷ qs) (at_places all ks ps (cons_tail (slice_get all k) (Some p) (map (slice_get all) ks) (map Some ps) e))

pub many_pages : (r : ReadDoc) (places : List ℕ) (pages : List PageOf) → ArePages r places pages → length places ≡ length pages
many_pages r places pages a =
    sym (length-map places (slice_get a.doc.pages)) ∙ ap (λ (xs : List (Option PageOf)). length xs) a.at ∙ length-map pages Some

page_at : (all : List PageOf) (places : List ℕ) (pages : List PageOf) (k place : ℕ) → map (slice_get all) places ≡ map Some pages → slice_get places k ≡ Some place
    → (p : PageOf) × (slice_get pages k ≡ Some p) × (slice_get all place ≡ Some p)
page_at all [] pages k place e h = absurd (cc)
page_at all (q ∷ qs) [] k place e h = absurd (cc)
page_at all (q ∷ qs) (p ∷ ps) zero place e h =
    (p, refl, subst (λ (z : ℕ). slice_get all z ≡ Some p) (same_some q place h) (cons_head (slice_get all q) (Some p) (map (slice_get all) qs) (map Some ps) e))
page_at all (q ∷ qs) (p ∷ ps) (suc k) place e h = page_at all qs ps k place (cons_tail (slice_get all q) (Some p) (map (slice_get all) qs) (map Some ps) e) h

-- the page at one of the places, of the list and of the document
pub record Here (r : ReadDoc) (pages : List PageOf) (k place : ℕ) : Type 0 where
  pub page : PageOf
  pub at : slice_get pages k ≡ Some page
  pub is : IsPage r place page

pub here : (r : ReadDoc) (places : List ℕ) (pages : List PageOf) (k place : ℕ) → ArePages r places pages → slice_get places k ≡ Some place → Here r pages k place
here r places pages k place a h =
    let p = page_at a.doc.pages places pages k place a.at h in
    record { page = p.0; at = p.1; is = (a.doc, a.is, p.2) }

-- some of the places in a row have some of the pages in a row
pub part_of : (r : ReadDoc) (places : List ℕ) (pages : List PageOf) (m n : ℕ) → ArePages r places pages → ArePages r (take n (drop m places)) (take n (drop m pages))
part_of r places pages m n a =
    let f = slice_get a.doc.pages in
    record {
      doc = a.doc;
      is = a.is;
      at =
          take_map f n (drop m places)
          ∙ ap (λ (xs : List (Option PageOf)). take n xs) (drop_map f m places ∙ ap (λ (xs : List (Option PageOf)). drop m xs) a.at ∙ sym (drop_map Some m pages))
          ∙ sym (take_map Some n (drop m pages));
    }

-- the first of the places have the first of the pages
pub front_of : (r : ReadDoc) (places : List ℕ) (pages : List PageOf) (n : ℕ) → ArePages r places pages → ArePages r (take n places) (take n pages)
front_of r places pages n a =
    record {
      doc = a.doc;
      is = a.is;
      at = take_map (slice_get a.doc.pages) n places ∙ ap (λ (xs : List (Option PageOf)). take n xs) a.at ∙ sym (take_map Some n pages);
    }

-- any pages at these places are those
pub same_pages : OneDocument → (r : ReadDoc) (places : List ℕ) (xs ys : List PageOf) → ArePages r places xs → ArePages r places ys → xs ≡ ys
same_pages one r places xs ys a b =
    sym (at_places a.doc.pages places xs a.at)
    ∙ ap (λ (d : Document). pages_at d.pages places) (one r.bytes a.doc b.doc a.is b.is)
    ∙ at_places b.doc.pages places ys b.at
