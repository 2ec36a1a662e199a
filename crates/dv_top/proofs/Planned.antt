-- What pages use, and pages in sections.
use Rattle.std.proofs.Common.{◌≡◌, ◌<◌, ◌≤◌, ◌+◌, ◌-◌, ◌||◌, Bool, ℕ, zero, suc, List, [], ◌∷◌, ◌++◌, length, take, drop, Option, Some, arith, refl, sym, ap, subst, ◌∙◌}
use Rattle.std.specs.Prelude.{slice_get, slice_index_or, ◌*◌, IsTrue}
use Rattle.std.specs.List.{sum}
use Rattle.std.proofs.lemmas.List.{append-nil, length-drop}
use Rattle.positions.specs.Mark.{Mark}
use Rattle.positions.specs.declared.canvas.NoFault.{NoFault}
use Rattle.dvi_ops.specs.Command.{Definition}
use Rattle.dvi_doc.specs.Document.{Document, PageOf}
use Rattle.dvi_doc.specs.Laws.{OneDocument}
use Rattle.dvi_doc.specs.View.{ReadDoc}
use Rattle.font_set.specs.Fonts.{FontSet}
use Rattle.vf_expand.specs.Grid.{Grid}
use Rattle.vf_expand.specs.Causes.{IsMany}
use Rattle.vf_expand.specs.Marks.{Outcome, marks_alone}
use Rattle.vf_expand.specs.Page.{IsPage, IsPageCause, page_count, page_marks}
use Rattle.vf_expand.specs.Takes.{Stops, TookPage}
use Rattle.vf_expand.specs.declared.fault.WalkFault.{WalkFault}
use Rattle.vf_expand.proofs.Later.{no_stop}
use Rattle.sections.specs.Cost.{IsPriced, marks_cost}
use Rattle.sections.specs.Laws.{AreWithin, EachWithin}
use Rattle.sections.specs.Sections.{is_few, sections}
use Rattle.sections.specs.Used.{HasTaken, SameFonts, Takes, Used, used_in}
use Rattle.sections.specs.UsedLaws.{used_both}
use Rattle.sections.proofs.Within.{all_within}
use Rattle.dv_top.specs.Each.{Each}
use Rattle.dv_top.specs.Printing.{marks_of_each, marks_or_none}
use Rattle.dv_top.specs.Selecting.{ArePages, pages_at}
use Rattle.dv_top.specs.Writing.{IsReady, IsWalkable, marks_in}
use Rattle.dv_top.proofs.Checked.{marks_append}
use Rattle.dv_top.proofs.Lists.{each_at, each_drop, each_take, same_some, sum_cons, take_more}
use Rattle.dv_top.proofs.PagesAt.{Here, here, pages_here, part_of, same_pages}

-- ---- parts of walkable pages

pub walkable_part : OneDocument → (r : ReadDoc) (places : List ℕ) (g : Grid) (set : FontSet) (m n : ℕ) → IsWalkable r places g set → IsWalkable r (take n (drop m places)) g set
walkable_part one r places g set m n w =
    let all = pages_here one r w.read.0 places w.read w.read.1 w.within in
    let whole = pages_at w.read.0.pages places in
    record {
      read = w.read;
      short = w.short;
      within = each_take _ n (drop m places) (each_drop _ m places w.within);
      ready = λ pages are.
          subst (Each (IsReady g set r.fonts)) (same_pages one r (take n (drop m places)) (take n (drop m whole)) pages (part_of r places whole m n all) are)
          (each_take (IsReady g set r.fonts) n (drop m whole) (each_drop (IsReady g set r.fonts) m whole (w.ready whole all)));
    }

-- a page of them is ready
pub ready_here : (r : ReadDoc) (places : List ℕ) (g : Grid) (set : FontSet) (pages : List PageOf) (k place : ℕ) (h : Here r pages k place) → IsWalkable r places g set → ArePages r places pages → IsReady g set r.fonts h.page
ready_here r places g set pages k place h w are = each_at (IsReady g set r.fonts) pages k h.page h.at (w.ready pages are)

-- ---- what they use

pub has_more : (u v : Used) (xs ys : List Mark) → HasTaken u xs → Takes u v ys → HasTaken v (xs ++ ys)
has_more u v xs ys h t =
    record {
      exactly = λ id code given small.
          let inside : id < u.fonts = omega (arith, given, t.same.fonts) in
          t.exactly id code inside small ∙ ap (λ (b : Bool). b || used_in ys id code) (h.exactly id code inside small) ∙ sym (used_both xs ys id code);
    }

pub same_more : (a b c : Used) → SameFonts a b → SameFonts b c → SameFonts a c
same_more a b c f g = record { fonts = g.fonts ∙ f.fonts; prices = g.prices ∙ f.prices }

pub same_priced : (set : FontSet) (a b : Used) → IsPriced set a → SameFonts a b → IsPriced set b
same_priced set a b p s =
    record {
      fonts = s.fonts ∙ p.fonts;
      prices = λ id code given small. ap (λ (xs : List ℕ). slice_index_or xs (id * 256 + code) 0) s.prices ∙ p.prices id code (omega (arith, given, s.fonts)) small;
    }

module _ (g : Grid) (set : FontSet) (ds : List Definition) where
  none_taken : (pages : List PageOf) → marks_in g set ds (take 0 pages) ≡ []
  none_taken [] = refl
  none_taken (p ∷ ps) = refl

  pub taken_none : (u : Used) (pages : List PageOf) → HasTaken u [] → HasTaken u (marks_in g set ds (take 0 pages))
  taken_none u pages h = subst (HasTaken u) (sym (none_taken pages)) h

  one_page : (p : PageOf) (r : IsReady g set ds p) → marks_in g set ds (p ∷ []) ≡ r.marks
  one_page p r = ap (λ (o : Outcome). marks_or_none (marks_alone o) ++ []) r.defined ∙ append-nil r.marks

  pub taken_more : (pages : List PageOf) (k : ℕ) (p : PageOf) (r : IsReady g set ds p) (u v : Used) → slice_get pages k ≡ Some p → HasTaken u (marks_in g set ds (take k pages)) → TookPage Takes u v (page_marks g set ds p.commands)
      → HasTaken v (marks_in g set ds (take (k + 1) pages))
  taken_more pages k p r u v at h took =
      let took_now : Takes u v r.marks = subst (TookPage Takes u v) r.defined took in
      let all : marks_in g set ds (take (k + 1) pages) ≡ marks_in g set ds (take k pages) ++ r.marks =
      ap (marks_in g set ds) (take_more pages k p at) ∙ marks_append g set ds (take k pages) (p ∷ []) ∙ ap (λ (ms : List Mark). marks_in g set ds (take k pages) ++ ms) (one_page p r) in
      subst (HasTaken v) (sym all) (has_more u v (marks_in g set ds (take k pages)) r.marks h took_now)

  -- a walk over a ready page can't stop
  pub no_fault : (p : PageOf) (r : IsReady g set ds p) (u v : Used) (fault : WalkFault NoFault) → Stops Takes (λ (a b : Used) (ms : List Mark) (m : Mark) (f : NoFault). ⊥) u v (marks_alone (page_marks g set ds p.commands)) fault → IsPageCause g set ds p fault
      → IsMany (0 + page_count set ds p.commands) fault → ⊥
  no_fault p r u v fault stops cause many =
      let only = no_stop Takes (λ (a b : Used) (ms : List Mark) (m : Mark) (f : NoFault). ⊥) g set ds p 0 u v (r.marks, r.state) r.defined r.shallow (let few = r.few in omega (arith, few)) fault stops cause many in
      nothing only.0
    where
      nothing : NoFault → ⊥
      nothing f = elim f [ ]

  -- ---- one page alone

  single : (pages : List PageOf) (k : ℕ) (p : PageOf) → slice_get pages k ≡ Some p → take 1 (drop k pages) ≡ p ∷ []
  single [] k p e = absurd (cc)
  single (q ∷ qs) zero p e = ap (λ (z : PageOf). z ∷ take 0 qs) (same_some q p e) ∙ ap (λ (zs : List PageOf). p ∷ zs) (none qs)
    where
      none : (zs : List PageOf) → take 0 zs ≡ []
      none [] = refl
      none (z ∷ zs) = refl
  single (q ∷ qs) (suc k) p e = single qs k p e

  pub taken_one : (pages : List PageOf) (k : ℕ) (p : PageOf) (r : IsReady g set ds p) (u : Used) → slice_get pages k ≡ Some p → HasTaken u (marks_in g set ds (take (k + 1 - k) (drop k pages))) → HasTaken u r.marks
  taken_one pages k p r u at h =
      let one : k + 1 - k ≡ 1 = omega arith in
      subst (HasTaken u) (ap (λ (n : ℕ). marks_in g set ds (take n (drop k pages))) one ∙ ap (marks_in g set ds) (single pages k p at) ∙ one_page p r) h

  pub each_many : (pages : List PageOf) → length (marks_of_each g set ds pages) ≡ length pages
  each_many [] = refl
  each_many (p ∷ ps) = ap suc (each_many ps)

-- ---- all pages are in sections

light_within : (set : FontSet) (budget : ℕ) (pages : List (List Mark)) → Each (λ marks. marks_cost set marks ≤ budget) pages → EachWithin set budget pages
light_within set budget [] h = tt
light_within set budget (m ∷ ms) h = (subst (λ (xs : List Mark). marks_cost set xs ≤ budget) (sym (append-nil m)) h.0, light_within set budget ms h.1)

sum_within : (set : FontSet) (budget : ℕ) (most : Option ℕ) (pages : List (List Mark)) (ns : List ℕ) → AreWithin set budget most pages ns → sum ns ≡ length pages
sum_within set budget most pages [] h = sym (ap length h)
sum_within set budget most pages (n ∷ ns) h =
    let rest = sum_within set budget most (drop n pages) ns h.4 in
    let fits = h.1 in
    let step : sum (n ∷ ns) ≡ n + sum ns = sum_cons n ns in
    omega (arith, rest, fits, step, length-drop n pages)

pub plan_sum : (set : FontSet) (budget : ℕ) (most : Option ℕ) (pages : List (List Mark)) → IsTrue (is_few most 1) → Each (λ marks. marks_cost set marks ≤ budget) pages → sum (sections set budget most pages) ≡ length pages
plan_sum set budget most pages one h = sum_within set budget most pages (sections set budget most pages) (all_within set budget most pages one (light_within set budget pages h))

-- the page of the document at one of the places is ready
pub ready_at : OneDocument → (r : ReadDoc) (places : List ℕ) (g : Grid) (set : FontSet) (k place : ℕ) (p : PageOf) → IsWalkable r places g set → slice_get places k ≡ Some place → IsPage r place p → IsReady g set r.fonts p
ready_at one r places g set k place p w at (d, is, found) =
    let are = pages_here one r d places w.read is w.within in
    let h = here r places (pages_at d.pages places) k place are at in
    let ready = ready_here r places g set (pages_at d.pages places) k place h w are in
    subst (IsReady g set r.fonts) (same_page h.page p (sym h.is.2 ∙ ap (λ (x : Document). slice_get x.pages place) (one r.bytes h.is.0 d h.is.1 is) ∙ found)) ready
  where
    same_page : (x y : PageOf) → Some x ≡ Some y → x ≡ y
    same_page x y e = cc

few_within : (set : FontSet) (budget : ℕ) (most : Option ℕ) (pages : List (List Mark)) (ns : List ℕ) → AreWithin set budget most pages ns → length ns ≤ length pages
few_within set budget most pages [] h = omega arith
few_within set budget most pages (n ∷ ns) h =
    let rest = few_within set budget most (drop n pages) ns h.4 in
    let some = h.0 in
    let fits = h.1 in
    omega (arith, rest, some, fits, length-drop n pages)

pub plan_few : (set : FontSet) (budget : ℕ) (most : Option ℕ) (pages : List (List Mark)) → IsTrue (is_few most 1) → Each (λ marks. marks_cost set marks ≤ budget) pages → length (sections set budget most pages) ≤ length pages
plan_few set budget most pages one h = few_within set budget most pages (sections set budget most pages) (all_within set budget most pages one (light_within set budget pages h))
