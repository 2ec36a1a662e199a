-- A job whose chosen pages were looked at.
use Rattle.std.proofs.Common.{◌≡◌, ◌≤◌, ℕ, ℤ, List, [], length, map, arith, sym, ap, subst, ◌∙◌}
use Rattle.dv_base.specs.Shelf.{Told}
use Rattle.positions.specs.Mark.{Mark}
use Rattle.dvi_doc.specs.Document.{PageOf}
use Rattle.dvi_doc.specs.Grammar.{IsDoc}
use Rattle.dvi_doc.specs.Laws.{OneDocument}
use Rattle.dvi_doc.specs.View.{ReadDoc}
use Rattle.dv_words.specs.Jobs.{PrintJob}
use Rattle.font_set.specs.Fonts.{FontSet}
use Rattle.vf_expand.specs.Page.{Walk, pages_count}
use Rattle.sections.specs.Cost.{marks_cost}
use Rattle.sections.specs.Sections.{sections}
use Rattle.ps_emit.specs.declared.setup.Setup.{Setup}
use Rattle.dv_top.specs.Covered.{Covered, IsNumbered, chosen_marks, doc_of, set_of}
use Rattle.dv_top.specs.Each.{Each}
use Rattle.dv_top.specs.Output.{IsHeaded, IsLookedAt, IsWritable}
use Rattle.dv_top.specs.Papers.{paper_of}
use Rattle.dv_top.specs.Planning.{PlanFails}
use Rattle.dv_top.specs.Printable.{Printable}
use Rattle.dv_top.specs.Printing.{IsSetupOf, chosen, marks_of_each, most_steps, printed, request_of}
use Rattle.dv_top.specs.Reasons.{Refuses}
use Rattle.dv_top.specs.Selecting.{ArePages}
use Rattle.dv_top.specs.Writing.{IsReady, IsWalkable}
use Rattle.dv_top.specs.declared.outcome.Outcome.{Outcome}
use Rattle.dv_top.specs.declared.write.Parts.{Parts}
use Rattle.dv_top.proofs.MadeJob.{Made, made, no_room, printable}
use Rattle.dv_top.proofs.Once.{all_pages}
use Rattle.dv_top.proofs.PagesAt.{many_pages}
use Rattle.dv_top.proofs.WrittenJob.{fonts_same}
use Rattle.dv_top.proofs.WrittenPages.{each_same}

module _ (one : OneDocument) {job : PrintJob} {told : Told} (c : Covered job told) (r : ReadDoc) (places : List ℕ) (walk : Walk) (set : FontSet) (w : IsWalkable r places walk.grid set) (k : IsLookedAt c r places walk set) where
  abbrev All : List PageOf
  All = printed (doc_of c) job

  pub is_doc : IsDoc r.bytes (doc_of c)
  is_doc = subst (λ (b : List ℕ). IsDoc b (doc_of c)) k.bytes c.sources.selected.source.is

  pub fonts : r.fonts ≡ (doc_of c).fonts
  fonts = fonts_same one r (doc_of c) w.read is_doc

  pub ready : Each (IsReady walk.grid (set_of c) r.fonts) (chosen (doc_of c) job)
  ready = subst (λ (a : FontSet). Each (IsReady walk.grid a r.fonts) (chosen (doc_of c) job)) (sym k.fonts) k.ready

  pub are : ArePages r places All
  are = all_pages one r (doc_of c) places (request_of job) w.read is_doc w.within k.places_are

  -- a plan that failed
  pub outcome_of_plan : (later : Told) (o : Outcome) → ((pages : List PageOf) → ArePages r places pages → PlanFails set job.memory (marks_of_each walk.grid set r.fonts pages) o) → Refuses job told later o
  outcome_of_plan later o cause =
      no_room job told c walk.grid r.fonts k.grid fonts ready later o (subst (λ (a : FontSet). PlanFails a job.memory (marks_of_each walk.grid a r.fonts All) o) (sym k.fonts) (cause All are))

  module _ (few : length places ≤ 1000000) (light : (pages : List PageOf) → ArePages r places pages → Each (λ marks. marks_cost set marks ≤ job.memory) (marks_of_each walk.grid set r.fonts pages)) (s : Setup) (paper : ℤ × ℤ) (papers : paper ≡ paper_of job.paper (chosen_marks c)) (asked : IsSetupOf job paper (length places) s) (headers : List (List ℕ)) (headed : IsHeaded c headers) where
    pub made_pages : Made job told c walk.grid r.fonts k.grid fonts ready
    made_pages = made job told c walk.grid r.fonts k.grid fonts ready (let many = many_pages r places All are in omega (arith, few, many))

    pub light_here : Each (λ marks. marks_cost (set_of c) marks ≤ job.memory) (marks_of_each walk.grid (set_of c) r.fonts All)
    light_here = subst (λ (a : FontSet). Each (λ (marks : List Mark). marks_cost a marks ≤ job.memory) (marks_of_each walk.grid a r.fonts All)) (sym k.fonts) (light All are)

    pub asked_here : IsSetupOf job (paper_of job.paper (chosen_marks c)) (length All) s
    asked_here = subst (λ (x : ℤ × ℤ). IsSetupOf job x (length All) s) papers (subst (λ (n : ℕ). IsSetupOf job paper n s) (many_pages r places All are) asked)

    -- it can be printed
    abbrev pub printable_here : Printable job told
    printable_here =
        printable job told c walk.grid r.fonts k.grid fonts ready made_pages (subst (λ (a : FontSet). IsNumbered a r.fonts (chosen (doc_of c) job)) (sym k.fonts) k.numbered)
        (subst (λ (a : FontSet). pages_count a r.fonts (chosen (doc_of c) job) ≤ most_steps) (sym k.fonts) k.steps) headed.few headers headed.held light_here s asked_here

    pub writable_here : (parts : Parts) (after : Walk) → parts.places.now ≡ places → map (λ h. h.items) parts.headers.items ≡ headers → parts.setup ≡ s → after.grid ≡ walk.grid
        → ((pages : List PageOf) → ArePages r places pages → parts.plan ≡ sections set job.memory job.per_section (marks_of_each walk.grid set r.fonts pages)) → IsWritable printable_here r parts after set
    writable_here parts after at same setup kept plan =
        record {
          bytes = k.bytes;
          fonts = k.fonts;
          grid = kept ∙ k.grid;
          places = at ∙ k.places_are;
          headers = same;
          plan =
              plan All are
              ∙ ap (λ (a : FontSet). sections set job.memory job.per_section (marks_of_each walk.grid a r.fonts All)) (sym k.fonts)
              ∙ ap (sections set job.memory job.per_section) (each_same walk.grid (set_of c) r.fonts 1 All made_pages.pages made_pages.are);
          setup = setup;
        }
