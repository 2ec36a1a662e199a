-- A job whose pages are ready can be printed.
use Rattle.std.proofs.Common.{◌≡◌, ◌<◌, ◌≤◌, ◌+◌, ◌^◌, ℕ, List, [], ◌∷◌, length, Some, sym, ap, subst, ◌∙◌, inl, inr}
use Rattle.dv_base.specs.Shelf.{Told}
use Rattle.positions.specs.Mark.{Mark}
use Rattle.dvi_ops.specs.Command.{Definition}
use Rattle.dvi_doc.specs.Document.{PageOf}
use Rattle.dv_words.specs.Jobs.{PrintJob}
use Rattle.font_set.specs.Fonts.{FontSet}
use Rattle.vf_expand.specs.Grid.{Grid}
use Rattle.vf_expand.specs.Page.{IsShallowPage, pages_count}
use Rattle.sections.specs.Cost.{marks_cost}
use Rattle.ps_emit.specs.Pages.{PrintedPage}
use Rattle.ps_emit.specs.declared.setup.Setup.{Setup}
use Rattle.dv_top.specs.Covered.{Covered, IsNumbered, Marked, chosen_marks, doc_of, set_of}
use Rattle.dv_top.specs.Each.{Each}
use Rattle.dv_top.specs.Headers.{HeldEach}
use Rattle.dv_top.specs.Papers.{paper_of}
use Rattle.dv_top.specs.Printable.{Printable}
use Rattle.dv_top.specs.Planning.{PlanFails}
use Rattle.dv_top.specs.Printing.{IsMarked, IsSetupOf, chosen, grid_of, marks_alone_of, marks_of_each, most_steps, printed, printed_from, request_of}
use Rattle.dv_top.specs.Reasons.{IsTooBig, Reason, Refuses, most_headers, names_for}
use Rattle.dv_top.specs.Writing.{IsReady}
use Rattle.dv_top.specs.declared.outcome.Outcome.{Outcome}
use Rattle.dv_top.proofs.Lists.{each_as}
use Rattle.dv_top.proofs.Once.{each_printed}
use Rattle.dv_top.proofs.WrittenPages.{all_printed, each_same}

pub light_pages : (set : FontSet) (budget : ℕ) (pages : List PrintedPage) → Each (λ marks. marks_cost set marks ≤ budget) (marks_alone_of pages) → Each (λ p. marks_cost set p.marks ≤ budget) pages
light_pages set budget [] h = tt
light_pages set budget (p ∷ ps) h = (h.0, light_pages set budget ps h.1)

module _ (job : PrintJob) (told : Told) (c : Covered job told) (g : Grid) (ds : List Definition) (grid : g ≡ grid_of (doc_of c) job) (fonts : ds ≡ (doc_of c).fonts) (ready : Each (IsReady g (set_of c) ds) (chosen (doc_of c) job)) where
  abbrev All : List PageOf
  All = printed (doc_of c) job

  -- the same by the names of the job
  pub named : (P : Grid → List Definition → Type 0) → P g ds → P (grid_of (doc_of c) job) (doc_of c).fonts
  named P h = subst (P (grid_of (doc_of c) job)) fonts (subst (λ (x : Grid). P x ds) grid h)

  abbrev pub marked : Marked job told
  marked =
      record {
        covered = c;
        defined =
            named (λ h x. Each (IsMarked h (set_of c) x) (chosen (doc_of c) job))
            (each_as (IsReady g (set_of c) ds) (IsMarked g (set_of c) ds) (λ p h. record { marks = h.marks; state = h.state; defined = h.defined }) (chosen (doc_of c) job) ready);
      }

  -- a page costs too much
  pub no_room : (later : Told) (o : Outcome) → PlanFails (set_of c) job.memory (marks_of_each g (set_of c) ds All) o → Refuses job told later o
  no_room later o (inl e) = inl e
  no_room later o (inr (page, need, have, tells, is)) =
      inr (Reason.NoRoom marked page need have, tells, named (λ h x. IsTooBig (set_of c) job.memory (marks_of_each h (set_of c) x All) page need have) is)

  pub record Made : Type 0 where
    pub pages : List PrintedPage
    pub are : printed_from g (set_of c) ds 1 All ≡ Some pages
    pub many : length pages ≡ length All

  pub made : 1 + length All < 2 ^ 32 → Made
  made few =
      let all = all_printed g (set_of c) ds 1 All few (each_printed (IsReady g (set_of c) ds) (doc_of c) (request_of job) ready) in
      record { pages = all.pages; are = all.printed; many = all.many }

  abbrev pub printable : (m : Made) → IsNumbered (set_of c) ds (chosen (doc_of c) job) → pages_count (set_of c) ds (chosen (doc_of c) job) ≤ most_steps → length (names_for c) ≤ most_headers → (headers : List (List ℕ)) → HeldEach told (names_for c) headers
      → Each (λ marks. marks_cost (set_of c) marks ≤ job.memory) (marks_of_each g (set_of c) ds All) → (s : Setup) → IsSetupOf job (paper_of job.paper (chosen_marks c)) (length All) s → Printable job told
  printable m numbered steps few_headers headers held light s asked =
      record {
        covered = c;
        numbered = named (λ h x. IsNumbered (set_of c) x (chosen (doc_of c) job)) numbered;
        pages = m.pages;
        are = named (λ h x. printed_from h (set_of c) x 1 All ≡ Some m.pages) m.are;
        shallow =
            named (λ h x. Each (λ p. IsShallowPage h (set_of c) x p.commands) (chosen (doc_of c) job))
            (each_as (IsReady g (set_of c) ds) (λ p. IsShallowPage g (set_of c) ds p.commands) (λ p h. h.shallow) (chosen (doc_of c) job) ready);
        few = named (λ h x. pages_count (set_of c) x (chosen (doc_of c) job) ≤ most_steps) steps;
        few_headers = few_headers;
        headers = headers;
        held = held;
        light =
            light_pages (set_of c) job.memory m.pages
            (subst (Each (λ (marks : List Mark). marks_cost (set_of c) marks ≤ job.memory)) (each_same g (set_of c) ds 1 All m.pages m.are) light);
        setup = s;
        asked = subst (λ (n : ℕ). IsSetupOf job (paper_of job.paper (chosen_marks c)) n s) (sym m.many) asked;
      }

  -- the plan by the marks is the plan of the pages
  pub plan_made : (m : Made) (plan : List ℕ) (P : List (List Mark) → List ℕ) → plan ≡ P (marks_of_each g (set_of c) ds All) → plan ≡ P (marks_alone_of m.pages)
  plan_made m plan P e = e ∙ ap P (each_same g (set_of c) ds 1 All m.pages m.are)
