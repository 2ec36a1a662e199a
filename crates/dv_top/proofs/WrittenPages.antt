-- The pages of a document, written one after another, the section that they make, and the whole text.
use Rattle.std.proofs.Common.{◌≡◌, ◌<◌, ◌≤◌, ◌+◌, ◌-◌, ◌^◌, ℕ, zero, suc, List, [], ◌∷◌, ◌++◌, length, map, take, drop, Option, Some, None, Result, Bool, arith, refl, sym, ap, subst, ◌∙◌, append_assoc, append-nil}
use Rattle.std.specs.Prelude.{slice_get, codes, IfOk, Ok, Err}
use Rattle.std.specs.List.{AllByRecursion, sum}
use Rattle.std.specs.Result.{IsErr}
use Rattle.std.proofs.lemmas.List.{length-drop, length-map, drop_all}
use Rattle.dv_base.specs.declared.tray.Tray.{Ghosts}
use Rattle.positions.specs.Mark.{Mark}
use Rattle.dvi_ops.specs.Command.{Definition}
use Rattle.dvi_doc.specs.Document.{PageOf}
use Rattle.dvi_doc.specs.View.{ReadDoc, page_view, Outline}
use Rattle.dvi_doc.specs.declared.page.Page.{Page}
use Rattle.font_set.specs.Fonts.{FontSet}
use Rattle.vf_expand.specs.Grid.{Grid, State}
use Rattle.vf_expand.specs.Marks.{marks_alone}
use Rattle.vf_expand.specs.Page.{IsPage, page_marks}
use Rattle.sections.specs.Planned.{UsesLast}
use Rattle.sections.specs.Used.{HasTaken, Used, is_used}
use Rattle.ps_subset.specs.FontText.{fonts_lines}
use Rattle.ps_subset.specs.Prolog.{line}
use Rattle.ps_emit.specs.Laws.{AllGoodPages, CallsMakeText, UsageGivesFonts}
use Rattle.ps_emit.specs.Letters.{fonts_used}
use Rattle.ps_emit.specs.Pages.{PrintedPage, bytes_of_job, marks_of, page_calls, pages_calls, section_calls, sections_calls}
use Rattle.ps_emit.specs.Setup.{prologue_of, trailer_of}
use Rattle.ps_emit.specs.Shown.{Holds, comments_of, pass_of}
use Rattle.ps_emit.specs.Written.{Cut, Out, Writes, Wrote, counted, cut_later, cut_longer, cut_writes, wrote_more, wrote_nothing}
use Rattle.ps_emit.specs.declared.emitter.Emitter.{Emitter}
use Rattle.ps_emit.specs.declared.setup.Setup.{Setup}
use Rattle.dv_top.specs.Each.{Each}
use Rattle.dv_top.specs.Printing.{in_sections, joined, marks_alone_of, marks_of_each, marks_or_none, printed_from, where_marked, with_marks}
use Rattle.dv_top.specs.Wrote.{WritesSeen}
use Rattle.dv_top.specs.Writing.{IsReady, marks_in}
use Rattle.sections.specs.Sections.{all_marks}
use Rattle.dv_top.proofs.Lists.{cons_head, cons_tail, same_some, sum_cons, split_at, take_all, take_more}
use Rattle.dv_top.proofs.WrittenPage.{still_begun}

-- the code's pages are as many
pub found_count : (r : ReadDoc) (ps : List Page) → map page_view ps ≡ r.pages → length ps ≡ length r.pages
found_count r ps e = sym (length-map ps page_view) ∙ ap (λ (xs : List Outline). length xs) e

-- an error, and a cut within the first of two texts
pub front_cut : {X E : Type 0} (a b : List ℕ) (x y : Out) (r : Result X E) → IsErr r → Cut a x y → Writes (a ++ b) x y r
front_cut a b x y r err f = cut_writes (a ++ b) x y r err (cut_longer a b x y f)

-- what an emitter writes by what it was made with
pub held_text : {T : Type 0} {G : Ghosts T} (a b : Emitter T G) (f : Bool → Bool → List ℕ) (P : List ℕ → Type 0) → Holds a b → P (f (comments_of b) (pass_of b)) → P (f (comments_of a) (pass_of a))
held_text a b f P h p = subst (λ c. P (f c (pass_of a))) h.comments_same (subst (λ d. P (f (comments_of b) d)) h.pass_same p)

-- ---- the calls of pages

calls_more : (comments pass : Bool) (ps qs : List PrintedPage) → pages_calls comments pass (ps ++ qs) ≡ pages_calls comments pass ps ++ pages_calls comments pass qs
calls_more comments pass [] qs = refl
calls_more comments pass (p ∷ ps) qs =
    ap (λ (text : List ℕ). page_calls comments pass p ++ text) (calls_more comments pass ps qs)
    ∙ sym (append_assoc (page_calls comments pass p) (pages_calls comments pass ps) (pages_calls comments pass qs))

calls_one : (comments pass : Bool) (ps : List PrintedPage) (q : PrintedPage) → pages_calls comments pass (ps ++ q ∷ []) ≡ pages_calls comments pass ps ++ page_calls comments pass q
calls_one comments pass [] q = append-nil (page_calls comments pass q)
calls_one comments pass (p ∷ ps) q =
    ap (λ (text : List ℕ). page_calls comments pass p ++ text) (calls_one comments pass ps q)
    ∙ sym (append_assoc (page_calls comments pass p) (pages_calls comments pass ps) (page_calls comments pass q))

drop_here : (ps : List PageOf) (k : ℕ) (p : PageOf) → slice_get ps k ≡ Some p → drop k ps ≡ p ∷ drop (suc k) ps
drop_here [] k p e = absurd (cc)
drop_here (q ∷ qs) zero p e = ap (λ (z : PageOf). z ∷ qs) (same_some q p e)
drop_here (q ∷ qs) (suc k) p e = drop_here qs k p e

module _ (g : Grid) (set : FontSet) (ds : List Definition) where
  -- the page as it is printed
  pub page_marked : (n : ℕ) (p : PageOf) (r : IsReady g set ds p) → where_marked p n (marks_alone (page_marks g set ds p.commands)) ≡ Some (with_marks p n r.marks)
  page_marked n p r = ap (λ o. where_marked p n (marks_alone o)) r.defined

  -- the first of the pages that are still to be printed
  abbrev Next : ℕ → List PageOf → PrintedPage → List PrintedPage → Type 0
  Next n ps q rest = (more : List PrintedPage) × (q ∷ more ≡ rest) × (printed_from g set ds n ps ≡ Some more)

  joined_some : (n : ℕ) (ps : List PageOf) (q : PrintedPage) (o : Option (List PrintedPage)) (rest : List PrintedPage) → printed_from g set ds n ps ≡ o → joined (Some q) o ≡ Some rest → Next n ps q rest
  joined_some n ps q None rest h e = absurd (cc)
  joined_some n ps q (Some more) rest h e = (more, same_some (q ∷ more) rest e, h)

  next_page : (n k : ℕ) (ps : List PageOf) (p : PageOf) (r : IsReady g set ds p) (rest : List PrintedPage) → slice_get ps k ≡ Some p → printed_from g set ds (n + k) (drop k ps) ≡ Some rest
      → Next (n + (k + 1)) (drop (k + 1) ps) (with_marks p (n + k) r.marks) rest
  next_page n k ps p r rest at e =
      let here : printed_from g set ds (n + k) (p ∷ drop (suc k) ps) ≡ Some rest = subst (λ (xs : List PageOf). printed_from g set ds (n + k) xs ≡ Some rest) (drop_here ps k p at) e in
      let marked : joined (Some (with_marks p (n + k) r.marks)) (printed_from g set ds (n + k + 1) (drop (suc k) ps)) ≡ Some rest =
      sym (ap (λ (o : Option PrintedPage). joined o (printed_from g set ds (n + k + 1) (drop (suc k) ps))) (page_marked (n + k) p r)) ∙ here in
      let far : n + k + 1 ≡ n + (k + 1) = omega arith in
      let one : suc k ≡ k + 1 = omega arith in
      subst (λ (m : ℕ). Next (n + (k + 1)) (drop m ps) (with_marks p (n + k) r.marks) rest) one
      (subst (λ (m : ℕ). Next m (drop (suc k) ps) (with_marks p (n + k) r.marks) rest) far
      (joined_some (n + k + 1) (drop (suc k) ps) (with_marks p (n + k) r.marks) (printed_from g set ds (n + k + 1) (drop (suc k) ps)) rest refl marked))

  -- the pages before this one are written, and the others are still to be printed; the first has the number n
  abbrev pub Before : ℕ → ℕ → List PageOf → List PrintedPage → Bool → Bool → Out → Out → Type 0
  Before n k ps pages comments pass x y =
      (front : List PrintedPage) × (rest : List PrintedPage) × (front ++ rest ≡ pages) × (printed_from g set ds (n + k) (drop k ps) ≡ Some rest) × Wrote (pages_calls comments pass front) x y

  pub before_first : (n : ℕ) (ps : List PageOf) (pages : List PrintedPage) (comments pass : Bool) (x : Out) → x.count < 2 ^ 64 → printed_from g set ds n ps ≡ Some pages → Before n 0 ps pages comments pass x x
  before_first n ps pages comments pass x fits e =
      let none : n ≡ n + 0 = omega arith in
      ([], pages, refl, subst (λ (m : ℕ). printed_from g set ds m (drop 0 ps) ≡ Some pages) none (ap (λ (qs : List PageOf). printed_from g set ds n qs) (drop_none ps) ∙ e), wrote_nothing x fits)
    where
      drop_none : (qs : List PageOf) → drop 0 qs ≡ qs
      drop_none [] = refl
      drop_none (q ∷ qs) = refl

  pub before_next : (n k : ℕ) (ps : List PageOf) (pages : List PrintedPage) (comments pass : Bool) (x y z : Out) (p : PageOf) (r : IsReady g set ds p) → slice_get ps k ≡ Some p
      → Before n k ps pages comments pass x y → Wrote (page_calls comments pass (with_marks p (n + k) r.marks)) y z → Before n (k + 1) ps pages comments pass x z
  before_next n k ps pages comments pass x y z p r at (front, rest, whole, printed, wrote) now = step (next_page n k ps p r rest at printed)
    where
      step : Next (n + (k + 1)) (drop (k + 1) ps) (with_marks p (n + k) r.marks) rest → Before n (k + 1) ps pages comments pass x z
      step (more, is, after) = (
        front ++ with_marks p (n + k) r.marks ∷ [],
        more,
        append_assoc front (with_marks p (n + k) r.marks ∷ []) more ∙ ap (λ (qs : List PrintedPage). front ++ qs) is ∙ whole,
        after,
        subst (λ (text : List ℕ). Wrote text x z) (sym (calls_one comments pass front (with_marks p (n + k) r.marks)))
            (wrote_more (pages_calls comments pass front) (page_calls comments pass (with_marks p (n + k) r.marks)) x y z wrote now),
      )

  pub cut_here : (n k : ℕ) (ps : List PageOf) (pages : List PrintedPage) (comments pass : Bool) (x y z : Out) (p : PageOf) (r : IsReady g set ds p) → slice_get ps k ≡ Some p
      → Before n k ps pages comments pass x y → Cut (page_calls comments pass (with_marks p (n + k) r.marks)) y z → Cut (pages_calls comments pass pages) x z
  cut_here n k ps pages comments pass x y z p r at (front, rest, whole, printed, wrote) now = step (next_page n k ps p r rest at printed)
    where
      step : Next (n + (k + 1)) (drop (k + 1) ps) (with_marks p (n + k) r.marks) rest → Cut (pages_calls comments pass pages) x z
      step (more, is, after) =
          let q : PrintedPage = with_marks p (n + k) r.marks in
          let text : (pages_calls comments pass front ++ page_calls comments pass q) ++ pages_calls comments pass more ≡ pages_calls comments pass pages =
          ap (λ (t : List ℕ). t ++ pages_calls comments pass more) (sym (calls_one comments pass front q))
          ∙ sym (calls_more comments pass (front ++ q ∷ []) more)
          ∙ ap (λ (qs : List PrintedPage). pages_calls comments pass qs) (append_assoc front (q ∷ []) more ∙ ap (λ (qs : List PrintedPage). front ++ qs) is ∙ whole) in
          subst (λ (t : List ℕ). Cut t x z) text
          (cut_longer (pages_calls comments pass front ++ page_calls comments pass q) (pages_calls comments pass more) x z
          (cut_later (pages_calls comments pass front) (page_calls comments pass q) x y z wrote now))

  -- what a call says of a page, whichever marks it has, is said of this one
  pub page_said : (P : List ℕ → Type 0) (h : Grid) (a b c d : Bool) (r : ReadDoc) (place number m : ℕ) (p : PageOf) → IsPage r place p → (ready : IsReady g set ds p) → h ≡ g → b ≡ a → d ≡ c → number ≡ m
      → ((q : PageOf) → IsPage r place q → (marks : List Mark) (state : State) → page_marks h set ds q.commands ≡ Some (marks, state) → P (page_calls b d (with_marks q number marks)))
      → P (page_calls a c (with_marks p m ready.marks))
  page_said P h a b c d r place number m p is ready kept same passes counted f =
      let defined = subst (λ (x : Grid). page_marks x set ds p.commands ≡ Some (ready.marks, ready.state)) (sym kept) ready.defined in
      subst (λ x. P (page_calls x c (with_marks p m ready.marks))) same
      (subst (λ y. P (page_calls b y (with_marks p m ready.marks))) passes
      (subst (λ (k : ℕ). P (page_calls b d (with_marks p k ready.marks))) counted (f p is ready.marks ready.state defined)))

  -- all pages are written
  pub all_written : (n k : ℕ) (ps : List PageOf) (pages : List PrintedPage) (comments pass : Bool) (x y : Out) → length ps ≤ k → Before n k ps pages comments pass x y → Wrote (pages_calls comments pass pages) x y
  all_written n k ps pages comments pass x y few (front, rest, whole, printed, wrote) =
      let none : [] ≡ rest =
      same_some [] rest (sym (ap (λ (xs : List PageOf). printed_from g set ds (n + k) xs) (drop_all k ps few)) ∙ printed) in
      let same : front ≡ pages = sym (append-nil front) ∙ ap (λ (qs : List PrintedPage). front ++ qs) none ∙ whole in
      subst (λ (qs : List PrintedPage). Wrote (pages_calls comments pass qs) x y) same wrote

  -- ---- the section

  -- the marks of the pages are those of the printed pages
  pub each_same : (n : ℕ) (ps : List PageOf) (pages : List PrintedPage) → printed_from g set ds n ps ≡ Some pages → marks_of_each g set ds ps ≡ marks_alone_of pages
  each_same n [] [] e = refl
  each_same n [] (q ∷ qs) e = absurd cc
  each_same n (p ∷ ps) pages e = by (λ more h. each_same (n + 1) ps more h) (marks_alone (page_marks g set ds p.commands)) refl (printed_from g set ds (n + 1) ps) refl e
    where
      by : ((more : List PrintedPage) → printed_from g set ds (n + 1) ps ≡ Some more → marks_of_each g set ds ps ≡ marks_alone_of more)
          → (o : Option (List Mark)) → marks_alone (page_marks g set ds p.commands) ≡ o → (os : Option (List PrintedPage)) → printed_from g set ds (n + 1) ps ≡ os → joined (where_marked p n o) os ≡ Some pages
          → marks_or_none (marks_alone (page_marks g set ds p.commands)) ∷ marks_of_each g set ds ps ≡ marks_alone_of pages
      by more None is os rest h = absurd cc
      by more (Some marks) is None rest h = absurd cc
      by more (Some marks) is (Some qs) rest h =
          ap (λ o. marks_or_none o ∷ marks_of_each g set ds ps) is ∙ ap (λ (ms : List (List Mark)). marks ∷ ms) (more qs rest) ∙ ap marks_alone_of (same_some (with_marks p n marks ∷ qs) pages h)

  pub marks_same : (n : ℕ) (ps : List PageOf) (pages : List PrintedPage) → printed_from g set ds n ps ≡ Some pages → marks_in g set ds ps ≡ marks_of pages
  marks_same n ps pages e = ap all_marks (each_same n ps pages e) ∙ all_marked pages
    where
      all_marked : (qs : List PrintedPage) → all_marks (marks_alone_of qs) ≡ marks_of qs
      all_marked [] = refl
      all_marked (q ∷ qs) = ap (λ (ms : List Mark). q.marks ++ ms) (all_marked qs)

  -- the section of some pages, with the fonts of what was taken
  pub section_text : UsageGivesFonts → (n : ℕ) (ps : List PageOf) (pages : List PrintedPage) (comments pass : Bool) (u : Used) → printed_from g set ds n ps ≡ Some pages
      → HasTaken u (marks_in g set ds ps) → u.fonts ≡ length set.fonts
      → line (codes "bos") ++ (fonts_lines (fonts_used set (is_used u)) ++ (pages_calls comments pass pages ++ line (codes "eos"))) ≡ section_calls comments set pass pages
  section_text law n ps pages comments pass u e taken same =
      let fonts = law set u (marks_of pages) (subst (HasTaken u) (marks_same n ps pages e) taken) same in
      ap (λ fs. line (codes "bos") ++ (fonts_lines fs ++ (pages_calls comments pass pages ++ line (codes "eos")))) fonts

  -- ---- the sections

  some_joined : (o : Option PrintedPage) (os : Option (List PrintedPage)) → joined o os ≡ Some [] → ⊥
  some_joined None os e = cc
  some_joined (Some q) None e = cc
  some_joined (Some q) (Some qs) e = cc

  -- some of the pages in a row are printed as some of the printed pages in a row
  pub printed_drop : (n m : ℕ) (ps : List PageOf) (pages : List PrintedPage) → printed_from g set ds n ps ≡ Some pages → printed_from g set ds (n + m) (drop m ps) ≡ Some (drop m pages)
  printed_drop n zero ps pages e = subst (λ (k : ℕ). printed_from g set ds k (drop 0 ps) ≡ Some (drop 0 pages)) none (start ps pages e)
    where
      none : n ≡ n + 0
      none = omega arith

      start : (qs : List PageOf) (rs : List PrintedPage) → printed_from g set ds n qs ≡ Some rs → printed_from g set ds n (drop 0 qs) ≡ Some (drop 0 rs)
      start [] [] h = h
      start [] (r ∷ rs) h = h
      start (q ∷ qs) [] h = h
      start (q ∷ qs) (r ∷ rs) h = h
  printed_drop n (suc m) [] [] e = refl
  printed_drop n (suc m) [] (q ∷ qs) e = absurd cc
  printed_drop n (suc m) (p ∷ ps) [] e = absurd (some_joined _ _ e)
  printed_drop n (suc m) (p ∷ ps) (q ∷ qs) e = subst (λ (k : ℕ). printed_from g set ds k (drop m ps) ≡ Some (drop m qs)) far (printed_drop (n + 1) m ps qs (behind (where_marked p n (marks_alone (page_marks g set ds p.commands))) (printed_from g set ds (n + 1) ps) e))
    where
      far : n + 1 + m ≡ n + suc m
      far = omega arith

      behind : (o : Option PrintedPage) (os : Option (List PrintedPage)) → joined o os ≡ Some (q ∷ qs) → os ≡ Some qs
      behind None os h = absurd cc
      behind (Some r) None h = absurd cc
      behind (Some r) (Some rs) h = ap Some (cons_tail r q rs qs (same_some (r ∷ rs) (q ∷ qs) h))

  pub printed_take : (n m : ℕ) (ps : List PageOf) (pages : List PrintedPage) → printed_from g set ds n ps ≡ Some pages → printed_from g set ds n (take m ps) ≡ Some (take m pages)
  printed_take n zero [] [] e = refl
  printed_take n zero [] (q ∷ qs) e = absurd cc
  printed_take n zero (p ∷ ps) [] e = refl
  printed_take n zero (p ∷ ps) (q ∷ qs) e = refl
  printed_take n (suc m) [] [] e = refl
  printed_take n (suc m) [] (q ∷ qs) e = absurd cc
  printed_take n (suc m) (p ∷ ps) [] e = absurd (some_joined _ _ e)
  printed_take n (suc m) (p ∷ ps) (q ∷ qs) e = by (λ rs k. printed_take (n + 1) m ps rs k) (where_marked p n (marks_alone (page_marks g set ds p.commands))) refl (printed_from g set ds (n + 1) ps) refl e
    where
      by : ((rs : List PrintedPage) → printed_from g set ds (n + 1) ps ≡ Some rs → printed_from g set ds (n + 1) (take m ps) ≡ Some (take m rs))
          → (o : Option PrintedPage) → where_marked p n (marks_alone (page_marks g set ds p.commands)) ≡ o → (os : Option (List PrintedPage)) → printed_from g set ds (n + 1) ps ≡ os → joined o os ≡ Some (q ∷ qs)
          → joined (where_marked p n (marks_alone (page_marks g set ds p.commands))) (printed_from g set ds (n + 1) (take m ps)) ≡ Some (q ∷ take m qs)
      by more None is os rest h = absurd cc
      by more (Some r) is None rest h = absurd cc
      by more (Some r) is (Some rs) rest h =
          let all = same_some (r ∷ rs) (q ∷ qs) h in
          ap (λ (o : Option PrintedPage). joined o (printed_from g set ds (n + 1) (take m ps))) is
          ∙ ap (joined (Some r)) (more rs rest)
          ∙ ap (λ (z : List PrintedPage). Some z) (ap (λ (z : PrintedPage). z ∷ take m rs) (cons_head r q rs qs all) ∙ ap (λ (zs : List PrintedPage). q ∷ take m zs) (cons_tail r q rs qs all))

  -- ---- pages that are ready, printed

  pub record ArePrinted (n : ℕ) (ps : List PageOf) : Type 0 where
    pub pages : List PrintedPage
    pub printed : printed_from g set ds n ps ≡ Some pages
    pub good : AllGoodPages set pages
    pub many : length pages ≡ length ps

  pub all_printed : (n : ℕ) (ps : List PageOf) → n + length ps < 2 ^ 32 → Each (IsReady g set ds) ps → ArePrinted n ps
  all_printed n [] few h = record { pages = []; printed = refl; good = tt; many = refl }
  all_printed n (p ∷ ps) few h =
      let rest = all_printed (n + 1) ps (omega arith) h.1 in
      record {
        pages = with_marks p n h.0.marks ∷ rest.pages;
        printed = ap (λ o. joined o (printed_from g set ds (n + 1) ps)) (page_marked n p h.0) ∙ ap (joined (Some (with_marks p n h.0.marks))) rest.printed;
        good = (record { label = h.0.labelled; number = omega arith; marks = h.0.takeable }, rest.good);
        many = ap suc rest.many;
      }

  -- any pages that are printed are those
  pub printed_good : (n : ℕ) (ps : List PageOf) (pages : List PrintedPage) → n + length ps < 2 ^ 32 → Each (IsReady g set ds) ps → printed_from g set ds n ps ≡ Some pages → AllGoodPages set pages
  printed_good n ps pages few h e =
      let all = all_printed n ps few h in
      subst (AllGoodPages set) (same_some all.pages pages (sym all.printed ∙ e)) all.good

  -- what was written of the pages leaves the output begun
  pub pages_begun : (n : ℕ) (ps : List PageOf) (text : List PrintedPage → List ℕ) (x y : Out) → n + length ps < 2 ^ 32 → Each (IsReady g set ds) ps → 0 < x.seen.begun
      → ((pages : List PrintedPage) → printed_from g set ds n ps ≡ Some pages → Wrote (text pages) x y) → 0 < y.seen.begun
  pages_begun n ps text x y few all h f =
      let printed = all_printed n ps few all in
      still_begun (text printed.pages) x y h (f printed.pages printed.printed)

good_part : (set : FontSet) (m : ℕ) (pages : List PrintedPage) → AllGoodPages set pages → AllGoodPages set (take m pages) × AllGoodPages set (drop m pages)
good_part set zero [] h = (tt, tt)
good_part set (suc m) [] h = (tt, tt)
good_part set zero (p ∷ ps) h = (tt, h)
good_part set (suc m) (p ∷ ps) h = let more = good_part set m ps h.1 in ((h.0, more.0), more.1)

-- pages in sections are good
pub sections_good : (set : FontSet) (plan : List ℕ) (pages : List PrintedPage) → AllGoodPages set pages → AllByRecursion (AllGoodPages set) (in_sections plan pages)
sections_good set [] pages h = tt
sections_good set (n ∷ ns) pages h = let parts = good_part set n pages h in (parts.0, sections_good set ns (drop n pages) parts.1)

-- the sections so far, and one more
sections_more : (comments : Bool) (set : FontSet) (pass : Bool) (xs : List (List PrintedPage)) (ys : List PrintedPage) → sections_calls comments set pass (xs ++ ys ∷ []) ≡ sections_calls comments set pass xs ++ section_calls comments set pass ys
sections_more comments set pass [] ys = append-nil (section_calls comments set pass ys)
sections_more comments set pass (x ∷ xs) ys =
    ap (λ (t : List ℕ). section_calls comments set pass x ++ t) (sections_more comments set pass xs ys)
    ∙ sym (append_assoc (section_calls comments set pass x) (sections_calls comments set pass xs) (section_calls comments set pass ys))

sections_both : (comments : Bool) (set : FontSet) (pass : Bool) (xs ys : List (List PrintedPage)) → sections_calls comments set pass (xs ++ ys) ≡ sections_calls comments set pass xs ++ sections_calls comments set pass ys
sections_both comments set pass [] ys = refl
sections_both comments set pass (x ∷ xs) ys =
    ap (λ (t : List ℕ). section_calls comments set pass x ++ t) (sections_both comments set pass xs ys)
    ∙ sym (append_assoc (section_calls comments set pass x) (sections_calls comments set pass xs) (sections_calls comments set pass ys))

drop_at : (k m : ℕ) (pages : List PrintedPage) → k ≡ m → drop k pages ≡ drop m pages
drop_at k m pages e = ap (λ (n : ℕ). drop n pages) e

drop_drop : (m n : ℕ) (pages : List PrintedPage) → drop m (drop n pages) ≡ drop (n + m) pages
drop_drop m zero [] = drop_at m (0 + m) [] (omega arith)
drop_drop m zero (p ∷ ps) = drop_at m (0 + m) (p ∷ ps) (omega arith)
drop_drop zero (suc n) [] = drop_at (suc n) (suc n + 0) [] (omega arith)
drop_drop (suc m) (suc n) [] = drop_at (suc n) (suc n) [] refl ∙ none (suc n) (suc n + suc m)
  where
    none : (j k : ℕ) → drop j (let ps : List PrintedPage = [] in ps) ≡ drop k (let ps : List PrintedPage = [] in ps)
    none zero zero = refl
    none zero (suc k) = refl
    none (suc j) zero = refl
    none (suc j) (suc k) = refl
drop_drop m (suc n) (p ∷ ps) = drop_drop m n ps ∙ drop_at (suc (n + m)) (suc n + m) (p ∷ ps) (omega arith)

-- the sections by the first lengths and by the others
parted_here : (plan rest : List ℕ) (pages : List PrintedPage) → in_sections (plan ++ rest) pages ≡ in_sections plan pages ++ in_sections rest (drop (sum plan) pages)
parted_here [] rest [] = refl
parted_here [] rest (p ∷ ps) = refl
parted_here (n ∷ ns) rest pages =
    ap (λ (xs : List (List PrintedPage)). take n pages ∷ xs)
    (parted_here ns rest (drop n pages) ∙ ap (λ (qs : List PrintedPage). in_sections ns (drop n pages) ++ in_sections rest qs) (drop_drop (sum ns) n pages ∙ ap (λ (m : ℕ). drop m pages) (sym (sum_cons n ns))))

pub sum_more : (xs : List ℕ) (k n : ℕ) → slice_get xs k ≡ Some n → sum (take (k + 1) xs) ≡ sum (take k xs) + n
sum_more xs k n at = ap sum (take_more xs k n at) ∙ sum_both (take k xs) n
  where
    sum_both : (ys : List ℕ) (m : ℕ) → sum (ys ++ m ∷ []) ≡ sum ys + m
    sum_both [] m = let one : sum (m ∷ []) ≡ m + sum [] = sum_cons m [] in let none : sum [] ≡ 0 = refl in omega (arith, one, none)
    sum_both (y ∷ ys) m =
        let more = sum_both ys m in
        let step : sum (y ∷ ys) ≡ y + sum ys = sum_cons y ys in
        let long : sum (y ∷ (ys ++ m ∷ [])) ≡ y + sum (ys ++ m ∷ []) = sum_cons y (ys ++ m ∷ []) in
        omega (arith, more, step, long)

-- what is written by the first sections is a front of what all make
module _ (comments : Bool) (set : FontSet) (pass : Bool) (plan : List ℕ) (pages : List PrintedPage) (k n : ℕ) (at : slice_get plan k ≡ Some n) where
  abbrev pub Section : List ℕ
  Section = section_calls comments set pass (take n (drop (sum (take k plan)) pages))

  first_one : in_sections (take (k + 1) plan) pages ≡ in_sections (take k plan) pages ++ take n (drop (sum (take k plan)) pages) ∷ []
  first_one = ap (λ (ns : List ℕ). in_sections ns pages) (take_more plan k n at) ∙ parted_here (take k plan) (n ∷ []) pages

  pub section_next : (x y z : Out) → Wrote (sections_calls comments set pass (in_sections (take k plan) pages)) x y → Wrote Section y z → Wrote (sections_calls comments set pass (in_sections (take (k + 1) plan) pages)) x z
  section_next x y z f h =
      subst (λ (t : List ℕ). Wrote t x z) (sym (ap (sections_calls comments set pass) first_one ∙ sections_more comments set pass (in_sections (take k plan) pages) (take n (drop (sum (take k plan)) pages))))
      (wrote_more (sections_calls comments set pass (in_sections (take k plan) pages)) Section x y z f h)

  pub section_cut : (x y z : Out) → Wrote (sections_calls comments set pass (in_sections (take k plan) pages)) x y → Cut Section y z → Cut (sections_calls comments set pass (in_sections plan pages)) x z
  section_cut x y z f h =
      let whole : sections_calls comments set pass (in_sections plan pages) ≡ (sections_calls comments set pass (in_sections (take k plan) pages) ++ Section) ++ sections_calls comments set pass (in_sections (drop (suc k) plan) (drop (sum (take k plan ++ n ∷ [])) pages)) =
      ap (λ (ns : List ℕ). sections_calls comments set pass (in_sections ns pages)) (sym (split_at plan k n at) ∙ sym (append_assoc (take k plan) (n ∷ []) (drop (suc k) plan)))
      ∙ ap (sections_calls comments set pass) (parted_here (take k plan ++ n ∷ []) (drop (suc k) plan) pages)
      ∙ sections_both comments set pass (in_sections (take k plan ++ n ∷ []) pages) (in_sections (drop (suc k) plan) (drop (sum (take k plan ++ n ∷ [])) pages))
      ∙ ap (λ (t : List ℕ). t ++ sections_calls comments set pass (in_sections (drop (suc k) plan) (drop (sum (take k plan ++ n ∷ [])) pages)))
      (ap (sections_calls comments set pass) (parted_here (take k plan) (n ∷ []) pages) ∙ sections_more comments set pass (in_sections (take k plan) pages) (take n (drop (sum (take k plan)) pages))) in
      subst (λ (t : List ℕ). Cut t x z) (sym whole)
      (cut_longer (sections_calls comments set pass (in_sections (take k plan) pages) ++ Section) (sections_calls comments set pass (in_sections (drop (suc k) plan) (drop (sum (take k plan ++ n ∷ [])) pages))) x z
      (cut_later (sections_calls comments set pass (in_sections (take k plan) pages)) Section x y z f h))

  -- the last section behind those before it
  pub sections_whole : length plan ≤ k + 1 → sections_calls comments set pass (in_sections (take k plan) pages) ++ Section ≡ sections_calls comments set pass (in_sections plan pages)
  sections_whole last =
      sym (ap (sections_calls comments set pass) first_one ∙ sections_more comments set pass (in_sections (take k plan) pages) (take n (drop (sum (take k plan)) pages)))
      ∙ ap (λ (ns : List ℕ). sections_calls comments set pass (in_sections ns pages)) (take_all plan (k + 1) last)

-- what a tray shows of that
pub seen_writes : {X E : Type 0} (text : List ℕ) (x y : Out) (r : Result X E) → Writes text x y r → WritesSeen text x.seen y.seen r
seen_writes text x y (Ok v) w = record { bytes = w.bytes; keeps = w.keeps }
seen_writes text x y (Err e) w = record { taken = w.taken; bytes = w.bytes; rose = w.rose; keeps = w.keeps }

-- ---- what the last section uses

each_behind : (g : Grid) (set : FontSet) (ds : List Definition) (k : ℕ) (pages : List PageOf) → drop k (marks_of_each g set ds pages) ≡ marks_of_each g set ds (drop k pages)
each_behind g set ds zero [] = refl
each_behind g set ds zero (p ∷ ps) = refl
each_behind g set ds (suc k) [] = refl
each_behind g set ds (suc k) (p ∷ ps) = each_behind g set ds k ps

pub last_uses : (g : Grid) (set : FontSet) (ds : List Definition) (u : Used) (plan : List ℕ) (pages : List PageOf) (done all : ℕ) → 0 < length plan → done ≡ sum (take (length plan - 1) plan) → all ≡ length pages
    → UsesLast u plan (marks_of_each g set ds pages) → HasTaken u (marks_in g set ds (take (all - done) (drop done pages)))
last_uses g set ds u plan pages done all some is many uses =
    let whole : take (all - done) (drop done pages) ≡ drop done pages = take_all (drop done pages) (all - done) (let long = length-drop done pages in omega (arith, long, many)) in
    let same : all_marks (drop (sum (take (length plan - 1) plan)) (marks_of_each g set ds pages)) ≡ marks_in g set ds (take (all - done) (drop done pages)) =
    ap (λ (n : ℕ). all_marks (drop n (marks_of_each g set ds pages))) (sym is) ∙ ap all_marks (each_behind g set ds done pages) ∙ ap (marks_in g set ds) (sym whole) in
    subst (HasTaken u) same (uses some)

-- the same with the same grid by another name
pub grid_said : (set : FontSet) (ds : List Definition) (n : ℕ) (ps : List PageOf) (pages : List PrintedPage) (g h : Grid) → g ≡ h → printed_from g set ds n ps ≡ Some pages → printed_from h set ds n ps ≡ Some pages
grid_said set ds n ps pages g h same e = subst (λ (x : Grid). printed_from x set ds n ps ≡ Some pages) same e

pub sum_room : (xs : List ℕ) (k n : ℕ) → slice_get xs k ≡ Some n → sum (take k xs) + n ≤ sum xs
sum_room [] k n e = absurd (cc)
sum_room (x ∷ xs) zero n e =
    let same = same_some x n e in
    let step : sum (x ∷ xs) ≡ x + sum xs = sum_cons x xs in
    let none : sum (take 0 (x ∷ xs)) ≡ 0 = refl in
    omega (arith, same, step, none)
sum_room (x ∷ xs) (suc k) n e =
    let more = sum_room xs k n e in
    let step : sum (x ∷ xs) ≡ x + sum xs = sum_cons x xs in
    let front : sum (take (suc k) (x ∷ xs)) ≡ x + sum (take k xs) = sum_cons x (take k xs) in
    omega (arith, more, step, front)

-- the pages of one section, as they are printed
pub printed_part : (g : Grid) (set : FontSet) (ds : List Definition) (done n : ℕ) (ps : List PageOf) (pages : List PrintedPage) → printed_from g set ds 1 ps ≡ Some pages → printed_from g set ds (done + 1) (take n (drop done ps)) ≡ Some (take n (drop done pages))
printed_part g set ds done n ps pages e =
    let far : 1 + done ≡ done + 1 = omega arith in
    printed_take g set ds (done + 1) n (drop done ps) (drop done pages) (subst (λ (m : ℕ). printed_from g set ds m (drop done ps) ≡ Some (drop done pages)) far (printed_drop g set ds 1 done ps pages e))

-- the calls of an emitter make the text of the job
pub text_made : {X E : Type 0} → CallsMakeText → (comments pass c d : Bool) (s : Setup) (headers : List (List ℕ)) (set : FontSet) (plan : List ℕ) (pages : List PrintedPage) (x y z : Out) (r : Result X E) → c ≡ comments → d ≡ pass → x ≡ y → AllGoodPages set pages
    → Writes (prologue_of c s headers ++ (sections_calls c set d (in_sections plan pages) ++ trailer_of c)) x z r
    → Writes (bytes_of_job comments s (record { headers = headers; fonts = set; pass = pass; sections = in_sections plan pages })) y z r
text_made {X} {E} make comments pass c d s headers set plan pages x y z r told passes same good h =
    let one = subst (λ (b : Bool). Writes (prologue_of b s headers ++ (sections_calls b set d (in_sections plan pages) ++ trailer_of b)) x z r) told h in
    let two = subst (λ (b : Bool). Writes (prologue_of comments s headers ++ (sections_calls comments set b (in_sections plan pages) ++ trailer_of comments)) x z r) passes one in
    let three = subst (λ (t : List ℕ). Writes t x z r) (make comments s (record { headers = headers; fonts = set; pass = pass; sections = in_sections plan pages }) (sections_good set plan pages good)) two in
    subst (λ (o : Out). Writes (bytes_of_job comments s (record { headers = headers; fonts = set; pass = pass; sections = in_sections plan pages })) o z r) same three

-- a section by the place where it begins
pub section_here : (P : List ℕ → Type 0) (comments : Bool) (set : FontSet) (pass : Bool) (pages : List PrintedPage) (done n sum : ℕ) → done ≡ sum → P (section_calls comments set pass (take (done + n - done) (drop done pages)))
    → P (section_calls comments set pass (take n (drop sum pages)))
section_here P comments set pass pages done n sum e h =
    let one : done + n - done ≡ n = omega arith in
    subst (λ (m : ℕ). P (section_calls comments set pass (take n (drop m pages)))) e (subst (λ (m : ℕ). P (section_calls comments set pass (take m (drop done pages)))) one h)

-- the last section, whose pages are all that are left
pub last_section : (P : List ℕ → Type 0) (comments : Bool) (set : FontSet) (pass : Bool) (plan : List ℕ) (pages : List PrintedPage) (k n done all : ℕ) → slice_get plan k ≡ Some n → length plan ≤ k + 1 → done ≡ sum (take k plan) → sum plan ≡ all
    → P (section_calls comments set pass (take (all - done) (drop done pages))) → P (section_calls comments set pass (take n (drop (sum (take k plan)) pages)))
last_section P comments set pass plan pages k n done all at last is planned h =
    let more = sum_more plan k n at in
    let whole : sum (take (k + 1) plan) ≡ sum plan = ap sum (take_all plan (k + 1) last) in
    let count : all ≡ done + n = omega (arith, more, whole, is, planned) in
    section_here P comments set pass pages done n (sum (take k plan)) is (subst (λ (m : ℕ). P (section_calls comments set pass (take (m - done) (drop done pages)))) count h)

-- nothing is written of no sections
pub no_sections : (comments : Bool) (set : FontSet) (pass : Bool) (plan : List ℕ) (pages : List PrintedPage) → length plan ≡ 0 → sections_calls comments set pass (in_sections plan pages) ≡ []
no_sections comments set pass [] pages none = refl
no_sections comments set pass (n ∷ ns) pages none = absurd (omega (arith, none))

-- how many bytes were counted from nothing
pub count_of : {E : Type 0} (text : List ℕ) (x y : Out) (r : Result ℕ E) → x.count ≡ 0 → Writes text x y r → IfOk r (λ n. n ≡ y.count) → IfOk r (λ n. n ≡ counted 0 (length text))
count_of text x y (Ok n) none w h = h ∙ w.count ∙ ap (λ (k : ℕ). counted k (length text)) none
count_of text x y (Err e) none w h = h
