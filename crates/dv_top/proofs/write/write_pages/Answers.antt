use Rattle.std.proofs.Common.{◌≡◌, ◌+◌, arith, refl, sym, subst, ap, ◌∙◌}
use Rattle.vf_expand.specs.Grid.{Grid}
use Rattle.vf_expand.specs.Page.{Walk}
use Rattle.ps_emit.specs.Pages.{pages_calls}
use Rattle.ps_emit.specs.Shown.{holds_more, out_of}
use Rattle.ps_emit.specs.Written.{Cut, Wrote, cut_writes}
use Rattle.dv_top.specs.Writing.{IsReady}
use Rattle.dv_top.proofs.Lists.{at_place}
use Rattle.dv_top.proofs.PagesAt.{here, many_pages, pages_here}
use Rattle.dv_top.proofs.Planned.{ready_at, ready_here}
use Rattle.dv_top.proofs.WrittenPage.{still_begun}
use Rattle.dv_top.proofs.WrittenPages.{all_written, before_first, before_next, cut_here, page_said}
use Rattle.dv_top.proofs.write.write_pages.Goals as goal

pub loop-index-init : goal.loop-index-init
loop-index-init g c =
    record {
      kept = refl;
      holds = record { loan_same = refl; fonts_same = refl; comments_same = refl; pass_same = refl };
      begun = c.requires.begun;
      wrote = λ pages are printed e. before_first c.args.walker.now.grid c.args.fonts.now c.args.doc.now.fonts c.args.first pages printed _ _ (out_of {T = g.row.T.Denot} {G = g.T.Tray} c.args.emitter.now) c.args.emitter.now.fits e;
    }

pub write_page-requires-clause-ready : goal.write_page-requires-clause-ready
write_page-requires-clause-ready g c = λ p is.
    let grid : c.reset.new.self.grid ≡ c.args.walker.now.grid = ap (λ (x : Walk). x.grid) c.reset.ensures ∙ c.loop-index.invariant.kept in
    subst (λ (h : Grid). IsReady h c.args.fonts.now c.args.doc.now.fonts p) (sym grid)
    (ready_at c.one_document.ensures c.args.doc.now c.args.places.now c.args.walker.now.grid c.args.fonts.now c.loop-index.index _ p c.requires.walkable (at_place c.args.places.now c.loop-index.index 0 c.loop-index-test.true) is)

pub write_page-requires-clause-few : goal.write_page-requires-clause-few
write_page-requires-clause-few g c = λ p is.
    let steps : c.reset.new.self.steps ≡ 0 = ap (λ (x : Walk). x.steps) c.reset.ensures in
    let ready = ready_at c.one_document.ensures c.args.doc.now c.args.places.now c.args.walker.now.grid c.args.fonts.now c.loop-index.index _ p c.requires.walkable (at_place c.args.places.now c.loop-index.index 0 c.loop-index-test.true) is in
    let few = ready.few in
    omega (arith, steps, few)

pub returns-in_err-write_page-clause-writes : goal.returns-in_err-write_page-clause-writes
returns-in_err-write_page-clause-writes g c = λ pages are printed e.
    let x = out_of {T = g.row.T.Denot} {G = g.T.Tray} c.args.emitter.now in
    let y = out_of {T = g.row.T.Denot} {G = g.T.Tray} c.loop-index.emitter in
    let z = out_of {T = g.row.T.Denot} {G = g.T.Tray} c.write_page.new.emitter in
    let set = c.args.fonts.now in
    let ds = c.args.doc.now.fonts in
    let grid = c.args.walker.now.grid in
    let inv = c.loop-index.invariant in
    let same : c.reset.new.self.grid ≡ grid = ap (λ (w : Walk). w.grid) c.reset.ensures ∙ inv.kept in
    let h = here c.args.doc.now c.args.places.now pages c.loop-index.index _ are (at_place c.args.places.now c.loop-index.index 0 c.loop-index-test.true) in
    let ready = ready_here c.args.doc.now c.args.places.now grid set pages c.loop-index.index _ h c.requires.walkable are in
    cut_writes (pages_calls _ _ printed) x z c.from_residual.result c.from_residual.ensures.0
    (cut_here grid set ds c.args.first c.loop-index.index pages printed _ _ x y z h.page ready h.at (inv.wrote pages are printed e)
    (page_said grid set ds (λ text. Cut text y z) _ _ _ _ _ c.args.doc.now _ _ (c.args.first + c.loop-index.index) h.page h.is ready same inv.holds.comments_same inv.holds.pass_same refl c.in_err-write_page.ensures.writes))

pub loop-index-preserved : goal.loop-index-preserved
loop-index-preserved g c =
    let x = out_of {T = g.row.T.Denot} {G = g.T.Tray} c.args.emitter.now in
    let y = out_of {T = g.row.T.Denot} {G = g.T.Tray} c.loop-index.emitter in
    let z = out_of {T = g.row.T.Denot} {G = g.T.Tray} c.write_page.new.emitter in
    let set = c.args.fonts.now in
    let ds = c.args.doc.now.fonts in
    let grid = c.args.walker.now.grid in
    let inv = c.loop-index.invariant in
    let same : c.reset.new.self.grid ≡ grid = ap (λ (w : Walk). w.grid) c.reset.ensures ∙ inv.kept in
    record {
      kept = c.in_ok-write_page.ensures.kept ∙ same;
      holds = holds_more {T = g.row.T.Denot} {G = g.T.Tray} c.args.emitter.now c.loop-index.emitter c.write_page.new.emitter inv.holds c.in_ok-write_page.ensures.holds;
      begun =
          let w = c.requires.walkable in
          let are = pages_here c.one_document.ensures c.args.doc.now w.read.0 c.args.places.now w.read w.read.1 w.within in
          let h = here c.args.doc.now c.args.places.now _ c.loop-index.index _ are (at_place c.args.places.now c.loop-index.index 0 c.loop-index-test.true) in
          let ready = ready_here c.args.doc.now c.args.places.now grid set _ c.loop-index.index _ h w are in
          still_begun _ y z inv.begun
          (page_said grid set ds (λ text. Wrote text y z) _ _ _ _ _ c.args.doc.now _ _ (c.args.first + c.loop-index.index) h.page h.is ready same inv.holds.comments_same inv.holds.pass_same refl c.in_ok-write_page.ensures.writes);
      wrote = λ pages are printed e.
          let h = here c.args.doc.now c.args.places.now pages c.loop-index.index _ are (at_place c.args.places.now c.loop-index.index 0 c.loop-index-test.true) in
          let ready = ready_here c.args.doc.now c.args.places.now grid set pages c.loop-index.index _ h c.requires.walkable are in
          before_next grid set ds c.args.first c.loop-index.index pages printed _ _ x y z h.page ready h.at (inv.wrote pages are printed e)
          (page_said grid set ds (λ text. Wrote text y z) _ _ _ _ _ c.args.doc.now _ _ (c.args.first + c.loop-index.index) h.page h.is ready same inv.holds.comments_same inv.holds.pass_same refl c.in_ok-write_page.ensures.writes);
    }

pub returns-clause-writes : goal.returns-clause-writes
returns-clause-writes g c = λ pages are printed e.
    let many = many_pages c.args.doc.now c.args.places.now pages are in
    all_written c.args.walker.now.grid c.args.fonts.now c.args.doc.now.fonts c.args.first c.loop-index.index pages printed _ _ (out_of {T = g.row.T.Denot} {G = g.T.Tray} c.args.emitter.now) (out_of {T = g.row.T.Denot} {G = g.T.Tray} c.loop-index.emitter)
    (omega (arith, many, c.loop-index-test.false)) (c.loop-index.invariant.wrote pages are printed e)
