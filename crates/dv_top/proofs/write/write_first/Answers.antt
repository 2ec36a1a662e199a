use Rattle.std.proofs.Common.{◌+◌, ◌-◌, ℕ, List, take, drop, slice_index_or, arith, refl, sym, ap, subst, ◌∙◌}
use Rattle.std.specs.List.{sum}
use Rattle.vf_expand.specs.Grid.{Grid}
use Rattle.ps_emit.specs.Pages.{section_calls, sections_calls}
use Rattle.ps_emit.specs.Shown.{comments_of, holds_more, out_of, pass_of}
use Rattle.ps_emit.specs.Written.{Cut, Wrote, cut_writes, wrote_nothing}
use Rattle.dv_top.specs.Printing.{in_sections}
use Rattle.dv_top.specs.Writing.{IsWalkable}
use Rattle.dv_top.proofs.Lists.{at_place, take_all}
use Rattle.dv_top.proofs.PagesAt.{many_pages, pages_here, part_of}
use Rattle.dv_top.proofs.Planned.{walkable_part}
use Rattle.dv_top.proofs.WrittenPage.{still_begun}
use Rattle.dv_top.proofs.WrittenPages.{all_printed, grid_said, held_text, printed_part, section_cut, section_here, section_next, sum_more}
use Rattle.dv_top.proofs.write.write_first.Goals as goal

pub loop-count-init : goal.loop-count-init
loop-count-init g c =
    record {
      kept = refl;
      holds = record { loan_same = refl; fonts_same = refl; comments_same = refl; pass_same = refl };
      begun = c.requires.begun;
      given = c.requires.given;
      done = refl;
      wrote = λ pages are printed e. wrote_nothing (out_of {T = g.row.T.Denot} {G = g.T.Tray} c.args.emitter.now) c.args.emitter.now.fits;
    }

pub write_walked-requires-clause-walkable : goal.write_walked-requires-clause-walkable
write_walked-requires-clause-walkable g c =
    let n = slice_index_or c.args.plan.now c.loop-count.count-index 0 in
    let done = c.loop-count.done in
    subst (λ (h : Grid). IsWalkable c.args.doc.now (take (done + n - done) (drop done c.args.places.now)) h c.args.fonts.now) (sym c.loop-count.invariant.kept)
    (walkable_part c.one_document.ensures c.args.doc.now c.args.places.now c.args.walker.now.grid c.args.fonts.now done (done + n - done) c.requires.walkable)

pub returns-in_err-write_walked-clause-writes : goal.returns-in_err-write_walked-clause-writes
returns-in_err-write_walked-clause-writes g c = λ pages are printed e.
    let x = out_of {T = g.row.T.Denot} {G = g.T.Tray} c.args.emitter.now in
    let y = out_of {T = g.row.T.Denot} {G = g.T.Tray} c.loop-count.emitter in
    let z = out_of {T = g.row.T.Denot} {G = g.T.Tray} c.write_walked.new.emitter in
    let set = c.args.fonts.now in
    let ds = c.args.doc.now.fonts in
    let grid = c.args.walker.now.grid in
    let inv = c.loop-count.invariant in
    let n = slice_index_or c.args.plan.now c.loop-count.count-index 0 in
    let done = c.loop-count.done in
    let at = at_place c.args.plan.now c.loop-count.count-index 0 c.loop-count-test.true in
    let part = part_of c.args.doc.now c.args.places.now pages done (done + n - done) are in
    let one = grid_said set ds (done + 1) _ _ grid _ (sym inv.kept) (printed_part grid set ds done (done + n - done) pages printed e) in
    let cut = held_text {T = g.row.T.Denot} {G = g.T.Tray} c.args.emitter.now c.loop-count.emitter (λ b p. section_calls b set p (take (done + n - done) (drop done printed))) (λ text. Cut text y z) inv.holds (c.in_err-write_walked.ensures.writes _ part _ one) in
    cut_writes (sections_calls _ _ _ (in_sections c.args.plan.now printed)) x z c.from_residual.result c.from_residual.ensures.0
    (section_cut _ set _ c.args.plan.now printed c.loop-count.count-index n at x y z (inv.wrote pages are printed e)
    (section_here (λ text. Cut text y z) _ set _ printed done n (sum (take c.loop-count.count-index c.args.plan.now)) inv.done cut))

pub loop-count-preserved : goal.loop-count-preserved
loop-count-preserved g c =
    let x = out_of {T = g.row.T.Denot} {G = g.T.Tray} c.args.emitter.now in
    let y = out_of {T = g.row.T.Denot} {G = g.T.Tray} c.loop-count.emitter in
    let z = out_of {T = g.row.T.Denot} {G = g.T.Tray} c.write_walked.new.emitter in
    let set = c.args.fonts.now in
    let ds = c.args.doc.now.fonts in
    let grid = c.args.walker.now.grid in
    let inv = c.loop-count.invariant in
    let n = slice_index_or c.args.plan.now c.loop-count.count-index 0 in
    let done = c.loop-count.done in
    let at = at_place c.args.plan.now c.loop-count.count-index 0 c.loop-count-test.true in
    record {
      kept = c.in_ok-write_walked.ensures.kept ∙ inv.kept;
      holds = holds_more {T = g.row.T.Denot} {G = g.T.Tray} c.args.emitter.now c.loop-count.emitter c.write_walked.new.emitter inv.holds c.in_ok-write_walked.ensures.holds;
      begun =
          let w = c.requires.walkable in
          let are = pages_here c.one_document.ensures c.args.doc.now w.read.0 c.args.places.now w.read w.read.1 w.within in
          let many = many_pages c.args.doc.now c.args.places.now _ are in
          let all = all_printed grid set ds 1 _ (let few = c.requires.few in omega (arith, few, many)) (w.ready _ are) in
          let part = part_of c.args.doc.now c.args.places.now _ done (done + n - done) are in
          let one = grid_said set ds (done + 1) _ _ grid _ (sym inv.kept) (printed_part grid set ds done (done + n - done) _ all.pages all.printed) in
          still_begun _ y z inv.begun (c.in_ok-write_walked.ensures.writes _ part _ one);
      given = c.in_ok-write_walked.ensures.given;
      done = let more = sum_more c.args.plan.now c.loop-count.count-index n at in let before = inv.done in omega (arith, more, before);
      wrote = λ pages are printed e.
          let part = part_of c.args.doc.now c.args.places.now pages done (done + n - done) are in
          let one = grid_said set ds (done + 1) _ _ grid _ (sym inv.kept) (printed_part grid set ds done (done + n - done) pages printed e) in
          let wrote = held_text {T = g.row.T.Denot} {G = g.T.Tray} c.args.emitter.now c.loop-count.emitter (λ b p. section_calls b set p (take (done + n - done) (drop done printed))) (λ text. Wrote text y z) inv.holds (c.in_ok-write_walked.ensures.writes _ part _ one) in
          section_next _ set _ c.args.plan.now printed c.loop-count.count-index n at x y z (inv.wrote pages are printed e)
          (section_here (λ text. Wrote text y z) _ set _ printed done n (sum (take c.loop-count.count-index c.args.plan.now)) inv.done wrote);
    }

pub returns-clause-writes : goal.returns-clause-writes
returns-clause-writes g c = λ pages are printed e.
    let all = take_all c.args.plan.now c.loop-count.count-index (omega (arith, c.loop-count-test.false)) in
    subst (λ (ns : List ℕ). Wrote (sections_calls (comments_of {T = g.row.T.Denot} {G = g.T.Tray} c.args.emitter.now) c.args.fonts.now (pass_of {T = g.row.T.Denot} {G = g.T.Tray} c.args.emitter.now) (in_sections ns printed)) (out_of {T = g.row.T.Denot} {G = g.T.Tray} c.args.emitter.now) (out_of {T = g.row.T.Denot} {G = g.T.Tray} c.loop-count.emitter)) all (c.loop-count.invariant.wrote pages are printed e)

pub returns-clause-done : goal.returns-clause-done
returns-clause-done g c = let all = take_all c.args.plan.now c.loop-count.count-index (omega (arith, c.loop-count-test.false)) in c.loop-count.invariant.done ∙ ap sum all
