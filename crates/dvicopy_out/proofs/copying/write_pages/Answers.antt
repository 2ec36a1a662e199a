use Rattle.std.proofs.Common.{rules, ◌<◌, ◌+◌, ◌^◌, ◌++◌, ℕ, ℤ, pos, negsuc, unsigned_abs, List, arith, refl, subst, sym, ap, ◌∙◌, length, take, length-append}
use Rattle.std.specs.Prelude.{slice_index}
use Rattle.std.proofs.lemmas.List.{take_all}
use Rattle.vf_expand.specs.Grid.{Grid}
use Rattle.dvicopy_out.specs.Spelled.{spelled}
use Rattle.dvicopy_out.specs.Copies.{page_commands, pages_bytes}
use Rattle.dvicopy_out.specs.Pages.{IsCovered, IsReady, copy_page, copy_pages}
use Rattle.dvicopy_out.specs.Sent.{Cut, Sent, cut_later, cut_longer, cut_sends, sent_more, sent_nothing}
use Rattle.dvicopy_out.specs.Shown.{holds_more, last_of, out_of, place_of}
use Rattle.dvicopy_out.proofs.Walked.{begin_there}
use Rattle.dvicopy_out.proofs.Rows.{commands_more, commands_room, each_at, last_within, next_last, next_text, pages_rest, pages_room}
use Rattle.dvicopy_out.proofs.copying.write_pages.Goals as goal

pub loop-page-init : goal.loop-page-init
loop-page-init g c = record {
  sent = sent_nothing (out_of {T = g.row.T.Denot} {G = g.T.Tray} c.args.writer.now);
  place = omega arith;
  last = c.requires.last;
  holds = record { loan_same = refl; fonts_same = refl };
  steps = omega arith;
  kept = refl;
}

pub write_page-requires-clause-covered : goal.write_page-requires-clause-covered
write_page-requires-clause-covered g c = each_at (IsCovered c.args.fonts.now c.args.doc.now) c.args.pages.now c.loop-page.page-index c.loop-page-test.true c.requires.covered

pub write_page-requires-clause-ready : goal.write_page-requires-clause-ready
write_page-requires-clause-ready g c =
    let i = c.loop-page.page-index in
    let ready = each_at (IsReady c.args.walker.now.grid c.args.fonts.now c.args.doc.now) c.args.pages.now i c.loop-page-test.true c.requires.ready in
    subst (λ (h : Grid). IsReady h c.args.fonts.now c.args.doc.now (slice_index c.args.pages.now i)) (sym c.loop-page.invariant.kept) ready

pub write_page-requires-clause-few : goal.write_page-requires-clause-few
write_page-requires-clause-few g c =
    let room = commands_room c.args.fonts.now c.args.doc.now c.args.pages.now c.loop-page.page-index c.loop-page-test.true in
    omega (arith, room, c.loop-page.invariant.steps, c.requires.few)

pub write_page-requires-clause-begun : goal.write_page-requires-clause-begun
write_page-requires-clause-begun g c =
    begin_there _ (out_of {T = g.row.T.Denot} {G = g.T.Tray} c.args.writer.now) (out_of {T = g.row.T.Denot} {G = g.T.Tray} c.loop-page.writer) c.requires.begun c.loop-page.invariant.sent

pub write_page-requires-clause-fonts : goal.write_page-requires-clause-fonts
write_page-requires-clause-fonts g c = c.loop-page.invariant.holds.fonts_same ∙ c.requires.fonts

pub write_page-requires-clause-place : goal.write_page-requires-clause-place
write_page-requires-clause-place g c =
    let room = pages_room c.args.walker.now.grid c.args.fonts.now c.args.doc.now c.args.pages.now c.loop-page.page-index (place_of {T = g.row.T.Denot} {G = g.T.Tray} c.args.writer.now) in
    omega (arith, room, c.loop-page.invariant.place, c.requires.room)

pub write_page-requires-clause-last : goal.write_page-requires-clause-last
write_page-requires-clause-last g c =
    let at = place_of {T = g.row.T.Denot} {G = g.T.Tray} c.args.writer.now in
    let room = pages_room c.args.walker.now.grid c.args.fonts.now c.args.doc.now c.args.pages.now c.loop-page.page-index at in
    let one : unsigned_abs (negsuc 0) < 2 ^ 31 = search rules in
    let within = last_within c.args.fonts.now (negsuc 0) at (2 ^ 31) (copy_pages c.args.walker.now.grid c.args.fonts.now c.args.doc.now (take c.loop-page.page-index c.args.pages.now)) one (omega (arith, room, c.requires.room)) in
    subst (λ (z : ℤ). unsigned_abs z < 2 ^ 31) (sym c.loop-page.invariant.last) within

pub returns-in_err-write_page-clause-sends : goal.returns-in_err-write_page-clause-sends
returns-in_err-write_page-clause-sends g c =
    let x = out_of {T = g.row.T.Denot} {G = g.T.Tray} c.args.writer.now in
    let y = out_of {T = g.row.T.Denot} {G = g.T.Tray} c.loop-page.writer in
    let z = out_of {T = g.row.T.Denot} {G = g.T.Tray} c.write_page.new.writer in
    let at = place_of {T = g.row.T.Denot} {G = g.T.Tray} c.args.writer.now in
    let grid = c.args.walker.now.grid in
    let set = c.args.fonts.now in
    let r = c.args.doc.now in
    let ks = c.args.pages.now in
    let i = c.loop-page.page-index in
    let inv = c.loop-page.invariant in
    let rest = pages_rest grid set r ks (i + 1) at in
    cut_sends _ x z c.from_residual.result c.from_residual.ensures.0
    (subst (λ text. Cut text x z) (ap (λ bs. bs ++ rest.0) (next_text grid c.loop-page.walker.grid set r ks i at (last_of {T = g.row.T.Denot} {G = g.T.Tray} c.loop-page.writer) c.loop-page-test.true inv.kept inv.last) ∙ rest.1)
    (cut_longer _ rest.0 x z (cut_later _ _ x y z inv.sent c.in_err-write_page.ensures.sends)))

pub loop-page-preserved : goal.loop-page-preserved
loop-page-preserved g c =
    let x = out_of {T = g.row.T.Denot} {G = g.T.Tray} c.args.writer.now in
    let y = out_of {T = g.row.T.Denot} {G = g.T.Tray} c.loop-page.writer in
    let z = out_of {T = g.row.T.Denot} {G = g.T.Tray} c.write_page.new.writer in
    let at = place_of {T = g.row.T.Denot} {G = g.T.Tray} c.args.writer.now in
    let grid = c.args.walker.now.grid in
    let set = c.args.fonts.now in
    let r = c.args.doc.now in
    let ks = c.args.pages.now in
    let i = c.loop-page.page-index in
    let inv = c.loop-page.invariant in
    let step = c.in_ok-write_page.ensures in
    let last = last_of {T = g.row.T.Denot} {G = g.T.Tray} c.loop-page.writer in
    let text = next_text grid c.loop-page.walker.grid set r ks i at last c.loop-page-test.true inv.kept inv.last in
    let room = pages_room grid set r ks (i + 1) at in
    let so_far : List ℕ = pages_bytes set (negsuc 0) at (copy_pages grid set r (take i ks)) in
    let more : List ℕ = spelled (page_commands set last (copy_page c.loop-page.walker.grid set r (slice_index ks i))) in
    let long = ap (λ (bs : List ℕ). length bs) text in
    record {
      sent = subst (λ bs. Sent bs x z) text (sent_more _ _ x y z inv.sent step.sends);
      place = omega (arith, inv.place, step.place, long, length-append so_far more, room, c.requires.room);
      last = step.last ∙ ap (λ (n : ℕ). pos n) inv.place ∙ sym (next_last grid set r ks i at c.loop-page-test.true);
      holds = holds_more {T = g.row.T.Denot} {G = g.T.Tray} c.args.writer.now c.loop-page.writer c.write_page.new.writer inv.holds step.holds;
      steps = omega (arith, step.steps, inv.steps, commands_more set r ks i c.loop-page-test.true);
      kept = step.kept ∙ inv.kept;
    }

pub returns-clause-sends : goal.returns-clause-sends
returns-clause-sends g c = rw (take_all c.loop-page.page-index c.args.pages.now c.loop-page-test.false) at c.loop-page.invariant.sent

pub returns-clause-place : goal.returns-clause-place
returns-clause-place g c = rw (take_all c.loop-page.page-index c.args.pages.now c.loop-page-test.false) at c.loop-page.invariant.place

pub returns-clause-last : goal.returns-clause-last
returns-clause-last g c = rw (take_all c.loop-page.page-index c.args.pages.now c.loop-page-test.false) at c.loop-page.invariant.last
