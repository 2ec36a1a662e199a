use Rattle.std.proofs.Common.{◌≤◌, arith, take, refl, sym, ap, subst, ◌∙◌}
use Rattle.dvi_doc.specs.Document.{PageOf}
use Rattle.font_set.specs.Covers.{Covers}
use Rattle.font_set.specs.Frames.{acts_of}
use Rattle.font_set.specs.Programs.{Program}
use Rattle.vf_expand.specs.Grid.{Grid}
use Rattle.vf_expand.specs.Page.{page_acts, page_marks, page_count}
use Rattle.vf_expand.specs.Takes.{TookPage}
use Rattle.vf_expand.proofs.Naming.{fault_given}
use Rattle.sections.specs.Cost.{IsPriced}
use Rattle.sections.specs.Used as used
use Rattle.dv_top.specs.Noted.{Takes}
use Rattle.dv_top.specs.Printing.{marks_of_each, most_steps}
use Rattle.dv_top.specs.Selecting.{pages_at}
use Rattle.dv_top.specs.Writing.{IsReady}
use Rattle.dv_top.proofs.Checked.{can_take, page_ready, steps_more}
use Rattle.dv_top.proofs.Drafted.{drafted_walked, many_marks, walked_priced}
use Rattle.dv_top.proofs.DocPages.{label_small}
use Rattle.dv_top.proofs.Lists.{at_place, each_all, each_at, each_more, take_all}
use Rattle.dv_top.proofs.NotedPages.{noted_next, stop_reason, took_used}
use Rattle.dv_top.proofs.PagesAt.{here, many_pages, pages_here}
use Rattle.dv_top.proofs.check.check_pages.Goals as goal

pub page-requires-clause-covers : goal.page-requires-clause-covers
page-requires-clause-covers c =
    let d = c.requires.read.0 in
    let are = pages_here c.one_document.ensures c.args.doc.now d c.args.places.now c.requires.read c.requires.read.1 c.requires.within in
    let h = here c.args.doc.now c.args.places.now _ c.loop-index.index _ are (at_place c.args.places.now c.loop-index.index 0 c.loop-index-test.true) in
    let same = c.pages_by_place.ensures c.args.doc.now _ h.page c.requires.read h.is in
    subst (λ (q : Program). Covers c.args.fonts.now (acts_of q)) (sym same) (each_at (λ (q : PageOf). Covers c.args.fonts.now (page_acts c.args.doc.now.fonts q.commands)) _ c.loop-index.index h.page h.at (c.requires.covers _ are))

pub page-requires-clause-can : goal.page-requires-clause-can
page-requires-clause-can c = λ p is m may among. can_take c.loop-index.walker.grid c.args.fonts.now c.begin_page.new.self.used _ (c.begin_page.ensures.same.fonts ∙ c.loop-index.invariant.priced.fonts) m may

pub of_stop-requires : goal.of_stop-requires
of_stop-requires c =
    let d = c.requires.read.0 in
    let are = pages_here c.one_document.ensures c.args.doc.now d c.args.places.now c.requires.read c.requires.read.1 c.requires.within in
    let h = here c.args.doc.now c.args.places.now _ c.loop-index.index _ are (at_place c.args.places.now c.loop-index.index 0 c.loop-index-test.true) in
    fault_given c.loop-index.walker.grid c.args.fonts.now c.args.doc.now.fonts h.page c.in-Err.fault (c.in-Err.ensures.cause h.page h.is)

pub returns-in-Err-clause-reason : goal.returns-in-Err-clause-reason
returns-in-Err-clause-reason c = λ pages are.
    let h = here c.args.doc.now c.args.places.now pages c.loop-index.index _ are (at_place c.args.places.now c.loop-index.index 0 c.loop-index-test.true) in
    stop_reason c.args.walker.now.grid c.args.fonts.now c.args.doc.now.fonts pages c.loop-index.index h.page c.loop-index.walker.steps c.in-Err.fault c.of_stop.result h.at (c.loop-index.invariant.steps pages are) c.of_stop.ensures
    (rw c.loop-index.invariant.kept at (c.in-Err.ensures.cause h.page h.is)) (c.in-Err.ensures.many h.page h.is)

pub loop-index-preserved : goal.loop-index-preserved
loop-index-preserved c =
    record {
      ready = λ pages are.
          let h = here c.args.doc.now c.args.places.now pages c.loop-index.index _ are (at_place c.args.places.now c.loop-index.index 0 c.loop-index-test.true) in
          let small = label_small c.one_document.ensures c.args.doc.now h.is.0 c.pages.result.now _ h.page _ c.requires.read h.is.1 c.pages.ensures h.is.2 c.label.ensures.small in
          let covered = each_at (λ (q : PageOf). Covers c.args.fonts.now (page_acts c.args.doc.now.fonts q.commands)) pages c.loop-index.index h.page h.at (c.requires.covers pages are) in
          let counted = c.in_default.ensures.steps h.page h.is in
          let few : page_count c.args.fonts.now c.args.doc.now.fonts h.page.commands ≤ most_steps = omega (arith, counted, c.steps.ensures.value, c.steps.ensures.few) in
          let ready : IsReady c.loop-index.walker.grid c.args.fonts.now c.args.doc.now.fonts h.page =
          page_ready c.loop-index.walker.grid c.args.fonts.now c.args.doc.now.fonts c.begin_page.new.self.used c.page.new.canvas.used h.page (ap (λ (g : Grid). g.across) c.loop-index.invariant.kept ∙ c.requires.across) c.requires.rasters
          (took_used c.begin_page.new.self c.page.new.canvas _ (c.in_default.ensures.ok h.page h.is)) (c.in_default.ensures.came h.page h.is) covered (c.in_default.ensures.shallow h.page h.is) few small in
          each_more (IsReady c.args.walker.now.grid c.args.fonts.now c.args.doc.now.fonts) pages c.loop-index.index h.page h.at (c.loop-index.invariant.ready pages are)
          (subst (λ (g : Grid). IsReady g c.args.fonts.now c.args.doc.now.fonts h.page) c.loop-index.invariant.kept ready);
      steps = λ pages are.
          let h = here c.args.doc.now c.args.places.now pages c.loop-index.index _ are (at_place c.args.places.now c.loop-index.index 0 c.loop-index-test.true) in
          let more = steps_more c.args.walker.now.grid c.args.fonts.now c.args.doc.now.fonts pages c.loop-index.index h.page h.at in
          let before = c.loop-index.invariant.steps pages are in
          let now = c.in_default.ensures.steps h.page h.is in
          omega (arith, more, before, now);
      noted = λ pages are job none.
          let h = here c.args.doc.now c.args.places.now pages c.loop-index.index _ are (at_place c.args.places.now c.loop-index.index 0 c.loop-index-test.true) in
          noted_next c.pages_go_on.ensures job c.begin_page.new.self c.page.new.canvas c.args.walker.now.grid c.args.fonts.now c.args.doc.now.fonts pages c.loop-index.index h.page h.at
          (c.begin_page.ensures.pages job _ (c.loop-index.invariant.noted pages are job none))
          (subst (λ (g : Grid). TookPage Takes c.begin_page.new.self c.page.new.canvas (page_marks g c.args.fonts.now c.args.doc.now.fonts h.page.commands)) c.loop-index.invariant.kept (c.in_default.ensures.ok h.page h.is));
      priced =
          let d = c.requires.read.0 in
          let are = pages_here c.one_document.ensures c.args.doc.now d c.args.places.now c.requires.read c.requires.read.1 c.requires.within in
          let h = here c.args.doc.now c.args.places.now _ c.loop-index.index _ are (at_place c.args.places.now c.loop-index.index 0 c.loop-index-test.true) in
          walked_priced c.args.fonts.now c.loop-index.notes.used c.begin_page.new.self.used c.page.new.canvas.used _ c.loop-index.invariant.priced c.begin_page.ensures.same
          (took_used c.begin_page.new.self c.page.new.canvas _ (c.in_default.ensures.ok h.page h.is));
      drafted = λ pages are.
          let h = here c.args.doc.now c.args.places.now pages c.loop-index.index _ are (at_place c.args.places.now c.loop-index.index 0 c.loop-index-test.true) in
          drafted_walked c.args.walker.now.grid c.args.fonts.now c.args.doc.now.fonts c.args.draft.now.planning.budget c.args.draft.now.planning.most c.loop-index.draft c.take.new.self c.begin_page.new.self.used c.page.new.canvas.used c.usage.result.now _ pages
          c.loop-index.index h.page h.at c.begin_page.ensures.none
          (subst (λ (g : Grid). TookPage used.Takes c.begin_page.new.self.used c.page.new.canvas.used (page_marks g c.args.fonts.now c.args.doc.now.fonts h.page.commands)) c.loop-index.invariant.kept
          (took_used c.begin_page.new.self c.page.new.canvas _ (c.in_default.ensures.ok h.page h.is)))
          c.usage.ensures (let many = many_pages c.args.doc.now c.args.places.now pages are in omega (arith, many, c.loop-index-test.true)) refl c.take.ensures (c.loop-index.invariant.drafted pages are);
      kept = c.page.ensures.kept ∙ c.loop-index.invariant.kept;
    }

pub take-requires-clause-next : goal.take-requires-clause-next
take-requires-clause-next c =
    let d = c.requires.read.0 in
    let are = pages_here c.one_document.ensures c.args.doc.now d c.args.places.now c.requires.read c.requires.read.1 c.requires.within in
    let pages = pages_at d.pages c.args.places.now in
    let many = many_pages c.args.doc.now c.args.places.now pages are in
    let few = many_marks c.args.walker.now.grid c.args.fonts.now c.args.doc.now.fonts pages c.loop-index.index (omega (arith, many, c.loop-index-test.true)) in
    (c.args.draft.now.planning.budget, c.args.draft.now.planning.most, marks_of_each c.args.walker.now.grid c.args.fonts.now c.args.doc.now.fonts (take c.loop-index.index pages), c.loop-index.invariant.drafted pages are, omega (arith, few))

pub take-requires-clause-priced : goal.take-requires-clause-priced
take-requires-clause-priced c =
    let d = c.requires.read.0 in
    let are = pages_here c.one_document.ensures c.args.doc.now d c.args.places.now c.requires.read c.requires.read.1 c.requires.within in
    let h = here c.args.doc.now c.args.places.now _ c.loop-index.index _ are (at_place c.args.places.now c.loop-index.index 0 c.loop-index-test.true) in
    subst (IsPriced c.args.fonts.now) (sym c.usage.ensures)
    (walked_priced c.args.fonts.now c.loop-index.notes.used c.begin_page.new.self.used c.page.new.canvas.used _ c.loop-index.invariant.priced c.begin_page.ensures.same
    (took_used c.begin_page.new.self c.page.new.canvas _ (c.in_default.ensures.ok h.page h.is)))

pub returns-clause-ready : goal.returns-clause-ready
returns-clause-ready c = λ pages are.
    each_all _ pages c.loop-index.index (let many = many_pages c.args.doc.now c.args.places.now pages are in omega (arith, many, c.loop-index-test.false)) (c.loop-index.invariant.ready pages are)

pub returns-clause-few : goal.returns-clause-few
returns-clause-few c = λ pages are.
    let all = (let many = many_pages c.args.doc.now c.args.places.now pages are in take_all pages c.loop-index.index (omega (arith, many, c.loop-index-test.false))) in
    let steps = rw all at (c.loop-index.invariant.steps pages are) in
    omega (arith, steps, c.steps-2.ensures.few, c.steps-2.ensures.value)

pub returns-clause-noted : goal.returns-clause-noted
returns-clause-noted c = λ pages are job none.
    let all = (let many = many_pages c.args.doc.now c.args.places.now pages are in take_all pages c.loop-index.index (omega (arith, many, c.loop-index-test.false))) in
    rw all at (c.loop-index.invariant.noted pages are job none)

pub returns-clause-drafted : goal.returns-clause-drafted
returns-clause-drafted c = λ pages are.
    let all = (let many = many_pages c.args.doc.now c.args.places.now pages are in take_all pages c.loop-index.index (omega (arith, many, c.loop-index-test.false))) in
    rw all at (c.loop-index.invariant.drafted pages are)
