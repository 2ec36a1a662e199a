-- The pages of a copy by places in what was read, and by their commands in the document.
use Rattle.std.proofs.Common.{◌≡◌, ◌<◌, ℕ, ℤ, zero, suc, List, [], ◌∷◌, length, map, Some, arith, inl, inr, refl, sym, ap, subst, ◌∙◌}
use Rattle.std.specs.Prelude.{slice_get}
use Rattle.std.specs.List.{AllByRecursion, Contains}
use Rattle.dv_base.specs.declared.font_id.Spot.TheVariants as spot
use Rattle.positions.specs.Mark.{Mark}
use Rattle.positions.specs.Place.{origin}
use Rattle.positions.specs.declared.canvas.NoFault.{NoFault}
use Rattle.dvi_ops.specs.Command.{Definition}
use Rattle.dvi_doc.specs.Document.{Document, PageOf}
use Rattle.dvi_doc.specs.Grammar.{IsDoc}
use Rattle.dvi_doc.specs.Laws.{OneDocument}
use Rattle.dvi_doc.specs.View.{IsRead, ReadDoc}
use Rattle.font_set.specs.Covers.{Covers}
use Rattle.font_set.specs.Fonts.{FontSet}
use Rattle.font_set.specs.Frames.{acts_of}
use Rattle.font_set.specs.Programs.{Program, page_program}
use Rattle.font_set.specs.Search.{page_of}
use Rattle.vf_expand.specs.Causes.{IsCause, IsMany}
use Rattle.vf_expand.specs.Given.{NamesGiven}
use Rattle.vf_expand.specs.Grid.{Grid}
use Rattle.vf_expand.specs.Marks.{Outcome}
use Rattle.vf_expand.specs.Page.{IsPageCause, page_marks, pages_count}
use Rattle.vf_expand.proofs.Naming.{fault_given}
use Rattle.vf_expand.specs.Pages.{most_nested}
use Rattle.vf_expand.specs.declared.fault.WalkFault.{WalkFault}
use Rattle.vf_expand.specs.declared.fault.WalkFault.TheVariants as walk
use Rattle.dvicopy_out.specs.Copies.{Page}
use Rattle.dvicopy_out.specs.Keyed.{AreSame, HasPages, keyed_marks}
use Rattle.dvicopy_out.specs.Pages.{IsCauseAt, IsCovered, IsReady, IsWalkCause, commands_at, copy_page, copy_pages, counts_in, eop_in, marks_or_none}
use Rattle.dvicopy_out.proofs.Walked.{ByPlace, count_here, outcome_here, outline_here, shallow_page}
use Rattle.dv_top.specs.Checking.{StopsIn}
use Rattle.dv_top.specs.Copyable.{SameMarks}
use Rattle.dv_top.specs.Copying.{copied_page, copied_pages}
use Rattle.dv_top.specs.CopyWork.{IsSound}
use Rattle.dv_top.specs.Covered.{CoversPages}
use Rattle.dv_top.specs.Each.{Each}
use Rattle.dv_top.specs.Selecting.{ArePages}
use Rattle.dv_top.specs.Sources.{InSomePage}
use Rattle.dv_top.proofs.Lists.{cons_head, cons_tail}

abbrev a_page : List ℤ → List Mark → Page
a_page counts marks = record { counts = counts; marks = marks }

-- a fault that stands in one of the pages names fonts of the set
pub names_given : (g : Grid) (set : FontSet) (ds : List Definition) (pages : List PageOf) (e : WalkFault NoFault) → InSomePage pages (λ p. IsPageCause g set ds p e) → NamesGiven set e
names_given g set ds [] e h = absurd h
names_given g set ds (p ∷ ps) e (inl h) = fault_given g set ds p e h
names_given g set ds (p ∷ ps) e (inr h) = names_given g set ds ps e h

-- and is why they can't be walked over
stops_here : (g : Grid) (set : FontSet) (ds : List Definition) (pages : List PageOf) (n : ℕ) → n ≡ pages_count set ds pages → (e : WalkFault NoFault) → InSomePage pages (λ p. IsPageCause g set ds p e) → IsMany n e → StopsIn g set ds pages e
stops_here g set ds pages n same (walk.StackUnder s) cause many = cause
stops_here g set ds pages n same (walk.StackLeft s) cause many = cause
stops_here g set ds pages n same (walk.StackDeep s) cause many = cause
stops_here g set ds pages n same (walk.NestDeep id code) cause many = cause
stops_here g set ds pages n same walk.TooManySteps cause many = omega (arith, many, same)
stops_here g set ds pages n same (walk.Overflow s) cause many = cause
stops_here g set ds pages n same (walk.Canvas f) cause many = elim f [ ]

module _ (one : OneDocument) (law : ByPlace) (r : ReadDoc) (read : IsRead r) (set : FontSet) where
  module _ (d : Document) (is : IsDoc r.bytes d) where
    covered_by : (places : List ℕ) (pages : List PageOf) → map (slice_get d.pages) places ≡ map Some pages → Each (λ k. k < length r.pages) places → CoversPages set r.fonts pages → AllByRecursion (IsCovered set r) places
    covered_by [] [] e within covers = tt
    covered_by [] (p ∷ ps) e within covers = absurd cc
    covered_by (k ∷ ks) [] e within covers = absurd cc
    covered_by (k ∷ ks) (p ∷ ps) e within covers =
        let at : slice_get d.pages k ≡ Some p = cons_head (slice_get d.pages k) (Some p) (map (slice_get d.pages) ks) (map Some ps) e in
        let same : page_of r k ≡ page_program r.fonts p.commands = law r k p read (d, is, at) in (
          record { there = within.0; covers = subst (λ (q : Program). Covers set (acts_of q)) (sym same) covers.0 },
          covered_by ks ps (cons_tail (slice_get d.pages k) (Some p) (map (slice_get d.pages) ks) (map Some ps) e) within.1 covers.1,
        )

    one_copy : (g : Grid) (k : ℕ) (p : PageOf) → slice_get d.pages k ≡ Some p → copy_page g set r k ≡ copied_page g set r.fonts p
    one_copy g k p at =
        let outline = outline_here one r k p read (d, is, at) in
        let marks = outcome_here law g set r k p read (d, is, at) in
        λ i. a_page (counts_in (outline i)) (marks_or_none (marks i))

    copies_by : (g : Grid) (places : List ℕ) (pages : List PageOf) → map (slice_get d.pages) places ≡ map Some pages → copy_pages g set r places ≡ copied_pages g set r.fonts pages
    copies_by g [] [] e = refl
    copies_by g [] (p ∷ ps) e = absurd cc
    copies_by g (k ∷ ks) [] e = absurd cc
    copies_by g (k ∷ ks) (p ∷ ps) e =
        ap (λ (q : Page). q ∷ copy_pages g set r ks) (one_copy g k p (cons_head (slice_get d.pages k) (Some p) (map (slice_get d.pages) ks) (map Some ps) e))
        ∙ ap (λ (qs : List Page). copied_page g set r.fonts p ∷ qs) (copies_by g ks ps (cons_tail (slice_get d.pages k) (Some p) (map (slice_get d.pages) ks) (map Some ps) e))

    counts_by : (places : List ℕ) (pages : List PageOf) → map (slice_get d.pages) places ≡ map Some pages → commands_at set r places ≡ pages_count set r.fonts pages
    counts_by [] [] e = refl
    counts_by [] (p ∷ ps) e = absurd cc
    counts_by (k ∷ ks) [] e = absurd cc
    counts_by (k ∷ ks) (p ∷ ps) e =
        let at : slice_get d.pages k ≡ Some p = cons_head (slice_get d.pages k) (Some p) (map (slice_get d.pages) ks) (map Some ps) e in
        let here = count_here law set r k p read (d, is, at) in
        let rest = counts_by ks ps (cons_tail (slice_get d.pages k) (Some p) (map (slice_get d.pages) ks) (map Some ps) e) in
        omega (arith, here, rest)

    -- why a walk over the page stops, by its commands
    cause_back : (g : Grid) (k : ℕ) (p : PageOf) (e : WalkFault NoFault) → slice_get d.pages k ≡ Some p → IsCauseAt g set r k e → IsPageCause g set r.fonts p e
    cause_back g k p e at h =
        let end : eop_in (slice_get r.pages k) ≡ p.eop = ap eop_in (outline_here one r k p read (d, is, at)) in
        subst (λ (n : ℕ). IsCause g set most_nested (page_program r.fonts p.commands) origin (λ at. spot.Page at) n 0 e) end
        (subst (λ (q : Program). IsCause g set most_nested q origin (λ at. spot.Page at) (eop_in (slice_get r.pages k)) 0 e) (law r k p read (d, is, at)) h)

    marks_by : (h : Grid) (other : FontSet) (es : List Definition) (places : List ℕ) (pages qs : List PageOf) → map (slice_get d.pages) places ≡ map Some pages → HasPages h set other r places es qs → SameMarks h other set es qs r.fonts pages
    marks_by h other es [] [] [] e has = tt
    marks_by h other es [] [] (q ∷ qs) e has = absurd has
    marks_by h other es [] (p ∷ ps) qs e has = absurd cc
    marks_by h other es (k ∷ ks) [] qs e has = absurd cc
    marks_by h other es (k ∷ ks) (p ∷ ps) [] e has = absurd has
    marks_by h other es (k ∷ ks) (p ∷ ps) (q ∷ qs) e has =
        let at : slice_get d.pages k ≡ Some p = cons_head (slice_get d.pages k) (Some p) (map (slice_get d.pages) ks) (map Some ps) e in
        let outline = outline_here one r k p read (d, is, at) in
        let marks = outcome_here law h set r k p read (d, is, at) in (
          has.0 ∙ ap counts_in outline,
          subst (λ (o : Outcome). AreSame (keyed_marks other (page_marks h other es q.commands)) (keyed_marks set o)) marks has.1,
          marks_by h other es ks ps qs (cons_tail (slice_get d.pages k) (Some p) (map (slice_get d.pages) ks) (map Some ps) e) has.2,
        )

    sound_by : (g : Grid) (places : List ℕ) (pages : List PageOf) → map (slice_get d.pages) places ≡ map Some pages → AllByRecursion (IsReady g set r) places → Each (IsSound g set r.fonts) pages
    sound_by g [] [] e ready = tt
    sound_by g [] (p ∷ ps) e ready = absurd cc
    sound_by g (k ∷ ks) [] e ready = absurd cc
    sound_by g (k ∷ ks) (p ∷ ps) e ready =
        let at : slice_get d.pages k ≡ Some p = cons_head (slice_get d.pages k) (Some p) (map (slice_get d.pages) ks) (map Some ps) e in
        let x = ready.0 in
        let marks = outcome_here law g set r k p read (d, is, at) in (
          record { marks = x.marks; state = x.state; defined = sym marks ∙ x.defined; shallow = shallow_page law g set r k p read (d, is, at) x.shallow },
          sound_by g ks ps (cons_tail (slice_get d.pages k) (Some p) (map (slice_get d.pages) ks) (map Some ps) e) ready.1,
        )

    cause_by : (g : Grid) (places : List ℕ) (pages : List PageOf) (k : ℕ) (f : WalkFault NoFault) → map (slice_get d.pages) places ≡ map Some pages → Contains places k → IsCauseAt g set r k f → InSomePage pages (λ p. IsPageCause g set r.fonts p f)
    cause_by g [] pages k f e (i, l, same) h = absurd (omega (arith, l))
    cause_by g (x ∷ xs) [] k f e among h = absurd cc
    cause_by g (x ∷ xs) (p ∷ ps) k f e (zero, l, same) h =
        let at : slice_get d.pages x ≡ Some p = cons_head (slice_get d.pages x) (Some p) (map (slice_get d.pages) xs) (map Some ps) e in
        inl (cause_back g x p f at (subst (λ (n : ℕ). IsCauseAt g set r n f) (sym same) h))
    cause_by g (x ∷ xs) (p ∷ ps) k f e (suc i, l, same) h =
        inr (cause_by g xs ps k f (cons_tail (slice_get d.pages x) (Some p) (map (slice_get d.pages) xs) (map Some ps) e) (i, omega (arith, l), same) h)

  -- fonts that cover the pages cover their places
  pub covered_places : (places : List ℕ) (pages : List PageOf) → ArePages r places pages → Each (λ k. k < length r.pages) places → CoversPages set r.fonts pages → AllByRecursion (IsCovered set r) places
  covered_places places pages a within covers = covered_by a.doc a.is places pages a.at within covers

  -- the pages of the copy are those of the pages
  pub same_copies : (g : Grid) (places : List ℕ) (pages : List PageOf) → ArePages r places pages → copy_pages g set r places ≡ copied_pages g set r.fonts pages
  same_copies g places pages a = copies_by a.doc a.is g places pages a.at

  -- the marks of the copy's pages are those of the pages
  pub same_marks : (h : Grid) (other : FontSet) (es : List Definition) (places : List ℕ) (pages qs : List PageOf) → ArePages r places pages → HasPages h set other r places es qs → SameMarks h other set es qs r.fonts pages
  same_marks h other es places pages qs a has = marks_by a.doc a.is h other es places pages qs a.at has

  -- pages at places that are ready were walked over
  pub sound_places : (g : Grid) (places : List ℕ) (pages : List PageOf) → ArePages r places pages → AllByRecursion (IsReady g set r) places → Each (IsSound g set r.fonts) pages
  sound_places g places pages a ready = sound_by a.doc a.is g places pages a.at ready

  -- they run as many commands as the places
  pub same_counts : (places : List ℕ) (pages : List PageOf) → ArePages r places pages → commands_at set r places ≡ pages_count set r.fonts pages
  same_counts places pages a = counts_by a.doc a.is places pages a.at

  -- what stops a walk over the places stands in one of the pages
  pub stops_some : (g : Grid) (places : List ℕ) (pages : List PageOf) → ArePages r places pages → (e : WalkFault NoFault) → IsWalkCause g set r places e → InSomePage pages (λ p. IsPageCause g set r.fonts p e)
  stops_some g places pages a e h = cause_by a.doc a.is g places pages h.page e a.at h.among h.cause

  -- and is why the pages can't be walked over
  pub stops_pages : (g : Grid) (places : List ℕ) (pages : List PageOf) → ArePages r places pages → (e : WalkFault NoFault) → IsWalkCause g set r places e → StopsIn g set r.fonts pages e
  stops_pages g places pages a e h = stops_here g set r.fonts pages (commands_at set r places) (same_counts places pages a) e (stops_some g places pages a e h) h.many
