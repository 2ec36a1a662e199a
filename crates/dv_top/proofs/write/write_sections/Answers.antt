use Rattle.std.proofs.Common.{◌<◌, ◌+◌, ◌-◌, List, length, take, drop, arith, sym, subst}
use Rattle.dvi_doc.specs.Document.{PageOf}
use Rattle.vf_expand.specs.Grid.{Grid}
use Rattle.sections.specs.Used.{HasTaken}
use Rattle.ps_emit.specs.Pages.{PrintedPage, section_calls, sections_calls}
use Rattle.ps_emit.specs.Shown.{comments_of, out_of, pass_of}
use Rattle.ps_emit.specs.Written.{Writes, Wrote, then_writes, wrote_nothing}
use Rattle.dv_top.specs.Printing.{in_sections}
use Rattle.dv_top.specs.Writing.{IsWalkable, marks_in}
use Rattle.dv_top.proofs.Lists.{at_place}
use Rattle.dv_top.proofs.PagesAt.{many_pages, pages_here, part_of, same_pages}
use Rattle.dv_top.proofs.Planned.{walkable_part}
use Rattle.dv_top.proofs.WrittenPages.{front_cut, grid_said, held_text, last_section, last_uses, no_sections, pages_begun, printed_part, sections_whole}
use Rattle.dv_top.proofs.write.write_sections.Goals as goal

pub returns-then-plan-eq0-clause-writes : goal.returns-then-plan-eq0-clause-writes
returns-then-plan-eq0-clause-writes g c = λ pages are printed e.
    let x = out_of {T = g.row.T.Denot} {G = g.T.Tray} c.args.emitter.now in
    subst (λ text. Wrote text x x) (sym (no_sections _ c.args.fonts.now _ c.args.plan.now printed c.if-plan-eq0.true)) (wrote_nothing x c.args.emitter.now.fits)

pub returns-in_err-done-clause-writes : goal.returns-in_err-done-clause-writes
returns-in_err-done-clause-writes g c = λ pages are printed e.
    let x = out_of {T = g.row.T.Denot} {G = g.T.Tray} c.args.emitter.now in
    let y = out_of {T = g.row.T.Denot} {G = g.T.Tray} c.write_first.new.emitter in
    let plan = c.args.plan.now in
    let k = length plan - 1 in
    let some : k < length plan = omega (arith, c.if-plan-eq0.false) in
    let whole = sections_whole (comments_of {T = g.row.T.Denot} {G = g.T.Tray} c.args.emitter.now) c.args.fonts.now (pass_of {T = g.row.T.Denot} {G = g.T.Tray} c.args.emitter.now) plan printed k _ (at_place plan k 0 some) (omega arith) in
    subst (λ text. Writes text x y c.from_residual.result) whole (front_cut _ _ x y c.from_residual.result c.from_residual.ensures.0 (c.in_err-done.ensures.writes pages are printed e))

pub write_section-requires-clause-walkable : goal.write_section-requires-clause-walkable
write_section-requires-clause-walkable g c =
    let done = c.in_ok-done.done in
    let m = length c.args.places.now - done in
    subst (λ (h : Grid). IsWalkable c.args.doc.now (take m (drop done c.args.places.now)) h c.args.fonts.now) (sym c.write_first.ensures.kept)
    (walkable_part c.one_document.ensures c.args.doc.now c.args.places.now c.args.walker.now.grid c.args.fonts.now done m c.requires.walkable)

pub write_section-requires-clause-begun : goal.write_section-requires-clause-begun
write_section-requires-clause-begun g c =
    let x = out_of {T = g.row.T.Denot} {G = g.T.Tray} c.args.emitter.now in
    let y = out_of {T = g.row.T.Denot} {G = g.T.Tray} c.write_first.new.emitter in
    let w = c.requires.walkable in
    let are = pages_here c.one_document.ensures c.args.doc.now w.read.0 c.args.places.now w.read w.read.1 w.within in
    let many = many_pages c.args.doc.now c.args.places.now _ are in
    pages_begun c.args.walker.now.grid c.args.fonts.now c.args.doc.now.fonts 1 _
    (λ (printed : List PrintedPage). sections_calls (comments_of {T = g.row.T.Denot} {G = g.T.Tray} c.args.emitter.now) c.args.fonts.now (pass_of {T = g.row.T.Denot} {G = g.T.Tray} c.args.emitter.now) (in_sections (take (length c.args.plan.now - 1) c.args.plan.now) printed)) x y
    (let few = c.requires.few in omega (arith, few, many)) (w.ready _ are) c.requires.begun (λ printed e. c.in_ok-done.ensures.writes _ are printed e)

pub write_section-requires-clause-uses : goal.write_section-requires-clause-uses
write_section-requires-clause-uses g c = λ pages are.
    let w = c.requires.walkable in
    let r = c.args.doc.now in
    let set = c.args.fonts.now in
    let ds = r.fonts in
    let places = c.args.places.now in
    let done = c.in_ok-done.done in
    let m = length places - done in
    let all = pages_here c.one_document.ensures r w.read.0 places w.read w.read.1 w.within in
    let part = part_of r places _ done m all in
    let last = last_uses c.args.walker.now.grid set ds c.args.last.now c.args.plan.now _ done (length places) (omega (arith, c.if-plan-eq0.false)) c.in_ok-done.ensures.done (many_pages r places _ all) (c.requires.last _ all) in
    subst (λ (h : Grid). HasTaken c.args.last.now (marks_in h set ds pages)) (sym c.write_first.ensures.kept)
    (subst (λ (ps : List PageOf). HasTaken c.args.last.now (marks_in c.args.walker.now.grid set ds ps)) (same_pages c.one_document.ensures r _ _ pages part are) last)

pub returns-clause-writes : goal.returns-clause-writes
returns-clause-writes g c = λ pages are printed e.
    let a = c.args.emitter.now in
    let x = out_of {T = g.row.T.Denot} {G = g.T.Tray} a in
    let y = out_of {T = g.row.T.Denot} {G = g.T.Tray} c.write_first.new.emitter in
    let z = out_of {T = g.row.T.Denot} {G = g.T.Tray} c.write_section.new.emitter in
    let set = c.args.fonts.now in
    let ds = c.args.doc.now.fonts in
    let plan = c.args.plan.now in
    let k = length plan - 1 in
    let done = c.in_ok-done.done in
    let m = length c.args.places.now - done in
    let some : k < length plan = omega (arith, c.if-plan-eq0.false) in
    let at = at_place plan k 0 some in
    let comments = comments_of {T = g.row.T.Denot} {G = g.T.Tray} a in
    let pass = pass_of {T = g.row.T.Denot} {G = g.T.Tray} a in
    let part = part_of c.args.doc.now c.args.places.now pages done m are in
    let one = grid_said set ds (done + 1) _ _ c.args.walker.now.grid _ (sym c.write_first.ensures.kept) (printed_part c.args.walker.now.grid set ds done m pages printed e) in
    let wrote = held_text {T = g.row.T.Denot} {G = g.T.Tray} a c.write_first.new.emitter (λ b p. section_calls b set p (take m (drop done printed))) (λ text. Writes text y z c.write_section.result) c.in_ok-done.ensures.holds (c.write_section.ensures.writes _ part _ one) in
    let last = last_section (λ text. Writes text y z c.write_section.result) comments set pass plan printed k _ done (length c.args.places.now) at (omega arith) c.in_ok-done.ensures.done c.requires.planned wrote in
    subst (λ text. Writes text x z c.write_section.result) (sections_whole comments set pass plan printed k _ at (omega arith)) (then_writes _ _ x y z c.write_section.result (c.in_ok-done.ensures.writes pages are printed e) last)
