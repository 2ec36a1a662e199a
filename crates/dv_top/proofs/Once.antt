-- The chosen pages, before their list is repeated and after.
use Rattle.std.proofs.Common.{◌≡◌, ◌<◌, ◌≤◌, ◌^◌, ◌/◌, ℕ, ℤ, zero, suc, List, [], ◌∷◌, ◌++◌, length, take, Option, Some, None, Result, Ok, Err, refl, sym, ap, subst, ◌∙◌}
use Rattle.std.specs.Prelude.{slice_get}
use Rattle.std.proofs.lemmas.List.{append-nil}
use Rattle.dvi_doc.specs.Document.{Document, PageOf}
use Rattle.dvi_doc.specs.Grammar.{IsDoc}
use Rattle.dvi_doc.specs.Laws.{OneDocument}
use Rattle.dvi_doc.specs.View.{IsRead, ReadDoc}
use Rattle.dv_words.specs.Selection.{kept_from, limited, spans_of, times, turned, wanted_in}
use Rattle.dv_words.specs.declared.spans.Span.{Span}
use Rattle.font_set.specs.Fonts.{FontSet}
use Rattle.vf_expand.specs.Grid.{Grid}
use Rattle.dv_top.specs.Each.{Each}
use Rattle.dv_top.specs.Selecting.{ArePages, Request, numbers_in, once, pages_at, pages_of, places_by, places_of, put_page}
use Rattle.dv_top.specs.Writing.{IsReady, IsWalkable}
use Rattle.dv_top.proofs.Chosen.{once_of}
use Rattle.dv_top.proofs.Lists.{each_join, each_take}
use Rattle.dv_top.proofs.PagesAt.{pages_here, same_pages}

put_both : (o : Option PageOf) (xs ys : List PageOf) → put_page o (xs ++ ys) ≡ put_page o xs ++ ys
put_both None xs ys = refl
put_both (Some p) xs ys = refl

pages_both : (all : List PageOf) (xs ys : List ℕ) → pages_at all (xs ++ ys) ≡ pages_at all xs ++ pages_at all ys
pages_both all [] ys = refl
pages_both all (x ∷ xs) ys = ap (put_page (slice_get all x)) (pages_both all xs ys) ∙ put_both (slice_get all x) (pages_at all xs) (pages_at all ys)

each_times : (P : PageOf → Type 0) (all : List PageOf) (base : List ℕ) (n : ℕ) → Each P (pages_at all base) → Each P (pages_at all (times n base))
each_times P all base zero h = tt
each_times P all base (suc n) h =
    subst (Each P) (sym (pages_both all base (times n base))) (each_join P (pages_at all base) (pages_at all (times n base)) h (each_times P all base n h))

each_by : (P : PageOf → Type 0) (all : List PageOf) (numbers : List ℤ) (asked : Request) (spans : Result (List Span) ℤ) → Each P (pages_at all (places_by numbers (once asked) spans)) → Each P (pages_at all (places_by numbers asked spans))
each_by P all numbers asked (Ok spans) h =
    let base = turned asked.reversed (limited asked.limit (kept_from 0 spans asked.parity numbers)) in
    each_times P all base asked.collated (subst (λ (ks : List ℕ). Each P (pages_at all ks)) (append-nil base) h)
each_by P all numbers asked (Err number) h = h

-- what is true of each chosen page is true of each page that is printed
pub each_printed : (P : PageOf → Type 0) (d : Document) (asked : Request) → Each P (pages_of d (once asked)) → Each P (pages_of d asked)
each_printed P d asked h = each_by P d.pages (numbers_in d) asked (spans_of (numbers_in d) (wanted_in asked.windows)) h

module _ (one : OneDocument) (r : ReadDoc) (d : Document) (places : List ℕ) (asked : Request) (read : IsRead r) (is : IsDoc r.bytes d) (within : Each (λ k. k < length r.pages) places) (are : places ≡ places_of d asked) where
  pub all_pages : ArePages r places (pages_of d asked)
  all_pages = subst (λ (ks : List ℕ). ArePages r places (pages_at d.pages ks)) are (pages_here one r d places read is within)

  pub once_within : Each (λ k. k < length r.pages) (take (length places / asked.collated) places)
  once_within = each_take (λ k. k < length r.pages) (length places / asked.collated) places within

  pub once_pages : 1 ≤ asked.collated → ArePages r (take (length places / asked.collated) places) (pages_of d (once asked))
  once_pages some =
      subst (λ (ks : List ℕ). ArePages r (take (length places / asked.collated) places) (pages_at d.pages ks)) (ap (λ (ks : List ℕ). take (length ks / asked.collated) ks) are ∙ once_of d asked some)
      (pages_here one r d (take (length places / asked.collated) places) read is once_within)

  pub walkable : (g : Grid) (set : FontSet) → length r.bytes < 2 ^ 31 → Each (IsReady g set r.fonts) (pages_of d (once asked)) → IsWalkable r places g set
  walkable g set short ready =
      record {
        read = read;
        short = short;
        within = within;
        ready = λ pages h. subst (Each (IsReady g set r.fonts)) (same_pages one r places (pages_of d asked) pages all_pages h) (each_printed (IsReady g set r.fonts) d asked ready);
      }
