use Rattle.std.proofs.Common.{◌≡◌, ◌+◌, ℕ, List, arith, refl, sym, ap, subst, ◌∙◌}
use Rattle.dvi_doc.specs.Document.{PageOf}
use Rattle.font_set.specs.Covers.{Covers}
use Rattle.font_set.specs.Frames.{acts_of}
use Rattle.font_set.specs.Programs.{Program}
use Rattle.positions.specs.declared.canvas.NoFault.{NoFault}
use Rattle.vf_expand.specs.Causes.{IsMany}
use Rattle.vf_expand.specs.Grid.{Grid}
use Rattle.vf_expand.specs.Marks.{marks_alone}
use Rattle.vf_expand.specs.Page.{IsPageCause, Walk, page_count, page_marks}
use Rattle.vf_expand.specs.Takes.{Stops, TookPage}
use Rattle.positions.specs.Mark.{Mark}
use Rattle.sections.specs.Used.{HasTaken, Takes, Used}
use Rattle.dv_top.specs.Writing.{marks_in}
use Rattle.dv_top.proofs.Checked.{can_take, took_same}
use Rattle.dv_top.proofs.Lists.{at_place, take_all}
use Rattle.dv_top.proofs.PagesAt.{here, many_pages, pages_here}
use Rattle.dv_top.proofs.Planned.{no_fault, ready_here, same_more, taken_more, taken_none}
use Rattle.dv_top.proofs.plan.use_pages.Goals as goal

pub loop-place-init : goal.loop-place-init
loop-place-init c =
    record {
      taken = λ pages are. taken_none c.args.walker.now.grid c.args.fonts.now c.args.doc.now.fonts c.clear.new.self pages c.clear.ensures.none;
      same = c.clear.ensures.same;
      kept = refl;
    }

pub page-requires-clause-covers : goal.page-requires-clause-covers
page-requires-clause-covers c =
    let w = c.requires.walkable in
    let are = pages_here c.one_document.ensures c.args.doc.now w.read.0 c.args.places.now w.read w.read.1 w.within in
    let h = here c.args.doc.now c.args.places.now _ c.loop-place.place-index _ are (at_place c.args.places.now c.loop-place.place-index 0 c.loop-place-test.true) in
    let ready = ready_here c.args.doc.now c.args.places.now c.args.walker.now.grid c.args.fonts.now _ c.loop-place.place-index _ h w are in
    subst (λ (q : Program). Covers c.args.fonts.now (acts_of q)) (sym (c.pages_by_place.ensures c.args.doc.now _ h.page w.read h.is)) ready.covered

pub page-requires-clause-can : goal.page-requires-clause-can
page-requires-clause-can c = λ p is m may among.
    can_take c.reset.new.self.grid c.args.fonts.now c.loop-place.usage _ (c.loop-place.invariant.same.fonts ∙ c.requires.given) m may

pub unreachable-requires : goal.unreachable-requires
unreachable-requires c =
    let w = c.requires.walkable in
    let are = pages_here c.one_document.ensures c.args.doc.now w.read.0 c.args.places.now w.read w.read.1 w.within in
    let h = here c.args.doc.now c.args.places.now _ c.loop-place.place-index _ are (at_place c.args.places.now c.loop-place.place-index 0 c.loop-place-test.true) in
    let ready = ready_here c.args.doc.now c.args.places.now c.args.walker.now.grid c.args.fonts.now _ c.loop-place.place-index _ h w are in
    let grid : c.reset.new.self.grid ≡ c.args.walker.now.grid = ap (λ (x : Walk). x.grid) c.reset.ensures ∙ c.loop-place.invariant.kept in
    let steps : c.reset.new.self.steps ≡ 0 = ap (λ (x : Walk). x.steps) c.reset.ensures in
    no_fault c.args.walker.now.grid c.args.fonts.now c.args.doc.now.fonts h.page ready c.loop-place.usage c.page.new.canvas c.in-Err.field-0
    (subst (λ (g : Grid). Stops Takes (λ (a b : Used) (ms : List Mark) (m : Mark) (f : NoFault). ⊥) c.loop-place.usage c.page.new.canvas (marks_alone (page_marks g c.args.fonts.now c.args.doc.now.fonts h.page.commands)) c.in-Err.field-0) grid (c.in-Err.ensures.stops h.page h.is))
    (subst (λ (g : Grid). IsPageCause g c.args.fonts.now c.args.doc.now.fonts h.page c.in-Err.field-0) grid (c.in-Err.ensures.cause h.page h.is))
    (subst (λ (n : ℕ). IsMany (n + page_count c.args.fonts.now c.args.doc.now.fonts h.page.commands) c.in-Err.field-0) steps (c.in-Err.ensures.many h.page h.is))

pub loop-place-preserved : goal.loop-place-preserved
loop-place-preserved c =
    let w = c.requires.walkable in
    let grid : c.reset.new.self.grid ≡ c.args.walker.now.grid = ap (λ (x : Walk). x.grid) c.reset.ensures ∙ c.loop-place.invariant.kept in
    record {
      taken = λ pages are.
          let h = here c.args.doc.now c.args.places.now pages c.loop-place.place-index _ are (at_place c.args.places.now c.loop-place.place-index 0 c.loop-place-test.true) in
          let ready = ready_here c.args.doc.now c.args.places.now c.args.walker.now.grid c.args.fonts.now pages c.loop-place.place-index _ h w are in
          taken_more c.args.walker.now.grid c.args.fonts.now c.args.doc.now.fonts pages c.loop-place.place-index h.page ready c.loop-place.usage c.page.new.canvas h.at (c.loop-place.invariant.taken pages are)
          (subst (λ (g : Grid). TookPage Takes c.loop-place.usage c.page.new.canvas (page_marks g c.args.fonts.now c.args.doc.now.fonts h.page.commands)) grid (c.in-Ok.ensures.ok h.page h.is));
      same =
          let are = pages_here c.one_document.ensures c.args.doc.now w.read.0 c.args.places.now w.read w.read.1 w.within in
          let h = here c.args.doc.now c.args.places.now _ c.loop-place.place-index _ are (at_place c.args.places.now c.loop-place.place-index 0 c.loop-place-test.true) in
          same_more c.args.usage.now c.loop-place.usage c.page.new.canvas c.loop-place.invariant.same (took_same c.loop-place.usage c.page.new.canvas _ (c.in-Ok.ensures.ok h.page h.is));
      kept = c.page.ensures.kept ∙ grid;
    }

pub returns-clause-taken : goal.returns-clause-taken
returns-clause-taken c = λ pages are.
    let all = (let many = many_pages c.args.doc.now c.args.places.now pages are in take_all pages c.loop-place.place-index (omega (arith, many, c.loop-place-test.false))) in
    subst (λ (ps : List PageOf). HasTaken c.loop-place.usage (marks_in c.args.walker.now.grid c.args.fonts.now c.args.doc.now.fonts ps)) all (c.loop-place.invariant.taken pages are)
