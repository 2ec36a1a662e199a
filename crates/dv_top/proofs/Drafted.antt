-- Pages that are drafted one after another.
use Rattle.std.proofs.Common.{◌≡◌, ◌≤◌, ◌+◌, true, false, ℕ, zero, suc, List, [], ◌∷◌, ◌++◌, length, take, drop, Option, Some, None, arith, refl, sym, ap, subst, ◌∙◌, inl, inr}
use Rattle.std.specs.Prelude.{IfOk, IsTrue, MatchOption, OnOk, Ok, Err, Result, slice_get}
use Rattle.std.specs.List.{sum}
use Rattle.std.specs.Option.{is_some}
use Rattle.std.proofs.lemmas.List.{length-append, length-take, take-append-drop}
use Rattle.positions.specs.Mark.{Mark}
use Rattle.dvi_ops.specs.Command.{Definition}
use Rattle.dvi_doc.specs.Document.{PageOf}
use Rattle.font_set.specs.Fonts.{FontSet}
use Rattle.vf_expand.specs.Grid.{Grid, State}
use Rattle.vf_expand.specs.Marks.{Outcome as Ends, marks_alone}
use Rattle.vf_expand.specs.Page.{page_marks}
use Rattle.vf_expand.specs.Takes.{TookPage}
use Rattle.vf_expand.proofs.Later.{took_defined}
use Rattle.sections.specs.Cost.{IsPriced, cost, marks_cost}
use Rattle.sections.specs.Planned.{IsPlanned, Planning, pages_given}
use Rattle.sections.specs.PlanFaults.{PlanFaultIs}
use Rattle.sections.specs.Sections.{is_few, sections}
use Rattle.sections.specs.Used.{HasTaken, SameFonts, Takes, Used, is_used}
use Rattle.sections.specs.declared.planner.PlanFault.{PlanFault}
use Rattle.sections.specs.declared.planner.PlanFault.TheVariants as plan
use Rattle.sections.proofs.Planning.{taken_cost}
use Rattle.dv_top.specs.Planning.{AreLight, Drafted, HasDrafted, IsUnplanned, IsWhole, PlanFails, PlanTells}
use Rattle.dv_top.specs.declared.outcome.Outcome.{Outcome}
use Rattle.dv_top.specs.Printing.{marks_of_each, marks_or_none}
use Rattle.dv_top.proofs.Checked.{each_append, taken_all, took_same}
use Rattle.dv_top.proofs.Lists.{each_join, take_all, take_more}
use Rattle.dv_top.proofs.Planned.{each_many, plan_few, plan_sum, same_priced}

-- ---- faults of the first pages are faults of all

get_front : {X : Type 0} (xs ys : List X) (k : ℕ) (x : X) → slice_get xs k ≡ Some x → slice_get (xs ++ ys) k ≡ Some x
get_front [] ys k x e = absurd cc
get_front (z ∷ zs) ys zero x e = e
get_front (z ∷ zs) ys (suc k) x e = get_front zs ys k x e

get_last : {X : Type 0} (xs : List X) (x : X) → slice_get (xs ++ x ∷ []) (length xs) ≡ Some x
get_last [] x = refl
get_last (z ∷ zs) x = get_last zs x

pub unplanned_more : (set : FontSet) (budget : ℕ) (pages more : List (List Mark)) (f : PlanFault) → IsUnplanned set budget pages f → IsUnplanned set budget (pages ++ more) f
unplanned_more set budget pages more (plan.PageTooBig page need have) h =
    record { before = h.before; counted = h.counted; marks = h.marks; at = get_front pages more h.before h.marks h.at; costs = h.costs; has = h.has; above = h.above }
unplanned_more set budget pages more plan.OutOfMemory h = tt

unplanned_here : (set : FontSet) (budget number : ℕ) (pages : List (List Mark)) (marks : List Mark) (u : Used) (f : PlanFault) → number ≡ length pages + 1 → IsPriced set u → HasTaken u marks → PlanFaultIs set budget number u f
    → IsUnplanned set budget (pages ++ marks ∷ []) f
unplanned_here set budget number pages marks u (plan.PageTooBig page need have) counted priced taken is =
    let costs = taken_cost set u marks priced taken in
    record {
      before = length pages;
      counted = is.0 ∙ counted;
      marks = marks;
      at = get_last pages marks;
      costs = is.1 ∙ costs;
      has = is.2;
      above = let above = is.3 in let has = is.2 in let need_is = is.1 in omega (arith, above, has, need_is);
    }
unplanned_here set budget number pages marks u plan.OutOfMemory counted priced taken is = tt

-- ---- drafts

module _ (set : FontSet) (budget : ℕ) (most : Option ℕ) where
  pub drafted_none : (p : Planning) → p.budget ≡ budget → p.most ≡ most → IsPlanned set p [] → pages_given p ≡ 0 → HasDrafted set budget most (record { planning = p; fault = None }) []
  drafted_none p b m planned given = record { budget_is = b; most_is = m; so_far = record { planned = planned; count = given; light = tt } }

  whole_by : (p : Planning) (o : Option PlanFault) (pages : List (List Mark)) → is_some o ≡ false → MatchOption o (IsWhole set p pages) (λ f. IsUnplanned set budget pages f) → IsWhole set p pages
  whole_by p None pages e h = h
  whole_by p (Some f) pages e h = absurd cc

  pub whole_of : (d : Drafted) (pages : List (List Mark)) → is_some d.fault ≡ false → HasDrafted set budget most d pages → IsWhole set d.planning pages
  whole_of d pages e h = whole_by d.planning d.fault pages e h.so_far

  refused_by : (p : Planning) (o : Option PlanFault) (pages more : List (List Mark)) → is_some o ≡ true → MatchOption o (IsWhole set p pages) (λ f. IsUnplanned set budget pages f)
      → MatchOption o (IsWhole set p (pages ++ more)) (λ f. IsUnplanned set budget (pages ++ more) f)
  refused_by p None pages more e h = absurd cc
  refused_by p (Some f) pages more e h = unplanned_more set budget pages more f h

  -- a draft with a fault is one of more pages
  pub still_refused : (d : Drafted) (pages more : List (List Mark)) → is_some d.fault ≡ true → HasDrafted set budget most d pages → HasDrafted set budget most d (pages ++ more)
  still_refused d pages more e h = record { budget_is = h.budget_is; most_is = h.most_is; so_far = refused_by d.planning d.fault pages more e h.so_far }

  -- the number of the next page
  pub next_number : (d : Drafted) (pages : List (List Mark)) (page : ℕ) → is_some d.fault ≡ false → HasDrafted set budget most d pages → page ≡ length pages + 1 → page ≡ pages_given d.planning + 1
  next_number d pages page e h counted = let count = (whole_of d pages e h).count in omega (arith, counted, count)

  pub drafted_page : (d : Drafted) (p : Planning) (o : Option PlanFault) (u : Used) (pages : List (List Mark)) (marks : List Mark) → is_some d.fault ≡ false → is_some o ≡ false → HasDrafted set budget most d pages → IsPriced set u → HasTaken u marks
      → ((ps : List (List Mark)) (ms : List Mark) → IsPlanned set d.planning ps → HasTaken u ms → IsPlanned set p (ps ++ ms ∷ [])) → pages_given p ≡ pages_given d.planning + 1 → p.budget ≡ d.planning.budget → p.most ≡ d.planning.most
      → cost set (is_used u) ≤ d.planning.budget → HasDrafted set budget most (record { planning = p; fault = o }) (pages ++ marks ∷ [])
  drafted_page d p (Some f) u pages marks e none h priced taken planned given b m within = absurd cc
  drafted_page d p None u pages marks e none h priced taken planned given b m within =
      let whole = whole_of d pages e h in
      let costs = taken_cost set u marks priced taken in
      let count = whole.count in
      record {
        budget_is = b ∙ h.budget_is;
        most_is = m ∙ h.most_is;
        so_far =
            record {
              planned = planned pages marks whole.planned taken;
              count = omega (arith, given, count, length-append pages (marks ∷ []));
              light =
                  subst (λ (n : ℕ). AreLight set n (pages ++ marks ∷ [])) (sym b)
                  (each_join (λ (ms : List Mark). marks_cost set ms ≤ d.planning.budget) pages (marks ∷ []) whole.light (let light : marks_cost set marks ≤ d.planning.budget = omega (arith, within, costs) in light, tt));
            };
      }

  pub faulted_page : (d : Drafted) (p : Planning) (u : Used) (page : ℕ) (f : PlanFault) (pages : List (List Mark)) (marks : List Mark) → p ≡ d.planning → HasDrafted set budget most d pages → page ≡ length pages + 1 → IsPriced set u → HasTaken u marks
      → PlanFaultIs set d.planning.budget page u f → HasDrafted set budget most (record { planning = p; fault = Some f }) (pages ++ marks ∷ [])
  faulted_page d p u page f pages marks same h counted priced taken is =
      record {
        budget_is = ap (λ (x : Planning). x.budget) same ∙ h.budget_is;
        most_is = ap (λ (x : Planning). x.most) same ∙ h.most_is;
        so_far = unplanned_here set budget page pages marks u f counted priced taken (subst (λ (n : ℕ). PlanFaultIs set n page u f) h.budget_is is);
      }

-- ---- the end of a draft

pub unplanned_fails : (set : FontSet) (budget : ℕ) (pages : List (List Mark)) (f : PlanFault) (o : Outcome) → PlanTells f o → IsUnplanned set budget pages f → PlanFails set budget pages o
unplanned_fails set budget pages (plan.PageTooBig page need have) o tells is = inr (page, need, have, tells, is)
unplanned_fails set budget pages plan.OutOfMemory o tells is = inl tells

pub refused_fails : (set : FontSet) (budget : ℕ) (most : Option ℕ) (d : Drafted) (pages : List (List Mark)) (f : PlanFault) (o : Outcome) → d.fault ≡ Some f → PlanTells f o → HasDrafted set budget most d pages → PlanFails set budget pages o
refused_fails set budget most d pages f o is tells h =
    unplanned_fails set budget pages f o tells (subst (λ (x : Option PlanFault). MatchOption x (IsWhole set d.planning pages) (λ z. IsUnplanned set budget pages z)) is h.so_far)

pub finished_whole : (set : FontSet) (budget : ℕ) (most : Option ℕ) (d : Drafted) (pages : List (List Mark)) → d.fault ≡ None → HasDrafted set budget most d pages → IsWhole set d.planning pages
finished_whole set budget most d pages is h = subst (λ (x : Option PlanFault). MatchOption x (IsWhole set d.planning pages) (λ z. IsUnplanned set budget pages z)) is h.so_far

-- the limits of a draft are its planner's
pub drafted_own : (set : FontSet) (budget : ℕ) (most : Option ℕ) (d : Drafted) (pages : List (List Mark)) → HasDrafted set budget most d pages → HasDrafted set d.planning.budget d.planning.most d pages
drafted_own set budget most d pages h =
    record {
      budget_is = refl;
      most_is = refl;
      so_far = subst (λ (n : ℕ). MatchOption d.fault (IsWhole set d.planning pages) (λ f. IsUnplanned set n pages f)) (sym h.budget_is) h.so_far;
    }

pub same_sections : (set : FontSet) (budget : ℕ) (most : Option ℕ) (d : Drafted) (pages xs : List (List Mark)) → HasDrafted set budget most d pages → sections set d.planning.budget d.planning.most xs ≡ sections set budget most xs
same_sections set budget most d pages xs h =
    ap (λ (n : ℕ). sections set n d.planning.most xs) h.budget_is ∙ ap (λ (m : Option ℕ). sections set budget m xs) h.most_is

pub same_limits : (set : FontSet) (budget : ℕ) (most : Option ℕ) (d e : Drafted) (pages more : List (List Mark)) → HasDrafted set budget most d pages → HasDrafted set d.planning.budget d.planning.most e more → HasDrafted set budget most e more
same_limits set budget most d e pages more h k =
    subst (λ (n : ℕ). HasDrafted set n most e more) h.budget_is (subst (λ (m : Option ℕ). HasDrafted set d.planning.budget m e more) h.most_is k)

-- what is true of a plan by its sections
pub plan_has : {E : Type 0} (r : Result (List ℕ × Used) E) (set : FontSet) (budget : ℕ) (most : Option ℕ) (pages : List (List Mark)) (n : ℕ) → IsTrue (is_few most 1) → length pages ≡ n
    → IfOk r (λ parts. parts.0 ≡ sections set budget most pages) → OnOk r (AreLight set budget pages) → IfOk r (λ parts. sum parts.0 ≡ n)
plan_has (Err e) set budget most pages n few many is light = tt
plan_has (Ok parts) set budget most pages n few many is light = ap sum is ∙ plan_sum set budget most pages few light ∙ many

pub plan_many : {E : Type 0} (r : Result (List ℕ × Used) E) (set : FontSet) (budget : ℕ) (most : Option ℕ) (pages : List (List Mark)) (n : ℕ) → IsTrue (is_few most 1) → length pages ≡ n
    → IfOk r (λ parts. parts.0 ≡ sections set budget most pages) → OnOk r (AreLight set budget pages) → IfOk r (λ parts. length parts.0 ≤ n)
plan_many (Err e) set budget most pages n few many is light = tt
plan_many (Ok parts) set budget most pages n few many is light =
    let bound = plan_few set budget most pages few light in
    let long = ap (λ (ns : List ℕ). length ns) is in
    omega (arith, bound, long, many)

pub plan_fonts : {E : Type 0} (r : Result (List ℕ × Used) E) (set : FontSet) → IfOk r (λ parts. IsPriced set parts.1) → IfOk r (λ parts. parts.1.fonts ≡ length set.fonts)
plan_fonts (Err e) set h = tt
plan_fonts (Ok parts) set h = h.fonts

-- ---- the next page of a document

module _ (g : Grid) (set : FontSet) (ds : List Definition) where
  pub many_marks : (pages : List PageOf) (k : ℕ) → k ≤ length pages → length (marks_of_each g set ds (take k pages)) ≡ k
  many_marks pages k few = each_many g set ds (take k pages) ∙ (let long = length-take k pages in omega (arith, long, few))

  each_next : (pages : List PageOf) (k : ℕ) (p : PageOf) (marks : List Mark) (state : State) → slice_get pages k ≡ Some p → page_marks g set ds p.commands ≡ Some (marks, state)
      → marks_of_each g set ds (take (k + 1) pages) ≡ marks_of_each g set ds (take k pages) ++ marks ∷ []
  each_next pages k p marks state at defined =
      ap (marks_of_each g set ds) (take_more pages k p at) ∙ each_append g set ds (take k pages) (p ∷ [])
      ∙ ap (λ (o : Ends). marks_of_each g set ds (take k pages) ++ marks_or_none (marks_alone o) ∷ []) defined

  -- what a draft says of a page that it is given
  abbrev pub Adds : Drafted → Drafted → Used → ℕ → Type 0
  Adds d e u number = (b : ℕ) (m : Option ℕ) (ps : List (List Mark)) (ms : List Mark) → HasDrafted set b m d ps → number ≡ length ps + 1 → HasTaken u ms → HasDrafted set b m e (ps ++ ms ∷ [])

  pub drafted_next : (budget : ℕ) (most : Option ℕ) (d e : Drafted) (u : Used) (number : ℕ) (pages : List PageOf) (k : ℕ) (p : PageOf) (marks : List Mark) (state : State) → slice_get pages k ≡ Some p → page_marks g set ds p.commands ≡ Some (marks, state)
      → k ≤ length pages → number ≡ k + 1 → HasTaken u marks → Adds d e u number → HasDrafted set budget most d (marks_of_each g set ds (take k pages)) → HasDrafted set budget most e (marks_of_each g set ds (take (k + 1) pages))
  drafted_next budget most d e u number pages k p marks state at defined few counted taken law h =
      subst (HasDrafted set budget most e) (sym (each_next pages k p marks state at defined))
      (law budget most (marks_of_each g set ds (take k pages)) marks h (let many = many_marks pages k few in omega (arith, counted, many)) taken)

  -- a page that was walked over
  pub drafted_walked : (budget : ℕ) (most : Option ℕ) (d e : Drafted) (a b u : Used) (number : ℕ) (pages : List PageOf) (k : ℕ) (p : PageOf) → slice_get pages k ≡ Some p → HasTaken a [] → TookPage Takes a b (page_marks g set ds p.commands) → u ≡ b
      → k ≤ length pages → number ≡ k + 1 → Adds d e u number → HasDrafted set budget most d (marks_of_each g set ds (take k pages)) → HasDrafted set budget most e (marks_of_each g set ds (take (k + 1) pages))
  drafted_walked budget most d e a b u number pages k p at none took same few counted law h =
      let r = took_defined Takes a b (page_marks g set ds p.commands) took in
      let taken : HasTaken b r.0.0 = taken_all a b r.0.0 none (subst (TookPage Takes a b) r.1 took) in
      drafted_next budget most d e u number pages k p r.0.0 r.0.1 at r.1 few counted (subst (λ (x : Used). HasTaken x r.0.0) (sym same) taken) law h

  -- a draft of the first pages, where no page more could be planned
  pub drafted_refused : (budget : ℕ) (most : Option ℕ) (d : Drafted) (pages : List PageOf) (n : ℕ) → is_some d.fault ≡ true → HasDrafted set budget most d (marks_of_each g set ds (take n pages)) → HasDrafted set budget most d (marks_of_each g set ds pages)
  drafted_refused budget most d pages n e h =
      subst (HasDrafted set budget most d) (sym (each_append g set ds (take n pages) (drop n pages)) ∙ ap (marks_of_each g set ds) (take-append-drop n pages))
      (still_refused set budget most d (marks_of_each g set ds (take n pages)) (marks_of_each g set ds (drop n pages)) e h)

  -- and where these are all
  pub drafted_all : (budget : ℕ) (most : Option ℕ) (d : Drafted) (pages : List PageOf) (n : ℕ) → length pages ≤ n → HasDrafted set budget most d (marks_of_each g set ds (take n pages)) → HasDrafted set budget most d (marks_of_each g set ds pages)
  drafted_all budget most d pages n few h = subst (λ (ps : List PageOf). HasDrafted set budget most d (marks_of_each g set ds ps)) (take_all pages n few) h

-- the glyphs still cost what they did
pub walked_priced : (set : FontSet) (a b c : Used) (o : Ends) → IsPriced set a → SameFonts a b → TookPage Takes b c o → IsPriced set c
walked_priced set a b c o priced same took = same_priced set b c (same_priced set a b priced same) (took_same b c o took)
