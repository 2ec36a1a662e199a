use Rattle.std.proofs.Common.{arith, ◌∙◌}
use Rattle.std.proofs.lemmas.List.{take_all}
use Rattle.std.proofs.lemmas.List.Elements.{Contains-get_or}
use Rattle.dvicopy_out.specs.Made.{IsPutAt}
use Rattle.dvicopy_out.specs.Pages.{IsCovered, IsReady}
use Rattle.dvicopy_out.proofs.Rows.{commands_more, commands_room, each_at, each_more, lengths_more, many_of}
use Rattle.dvicopy_out.proofs.copying.measure_copy.Goals as goal

pub measure_page-requires-clause-covered : goal.measure_page-requires-clause-covered
measure_page-requires-clause-covered c = each_at (IsCovered c.args.fonts.now c.args.doc.now) c.args.pages.now c.loop-page.page-index c.loop-page-test.true c.requires.covered

pub returns-in-Err-clause-cause : goal.returns-in-Err-clause-cause
returns-in-Err-clause-cause c =
    let i = c.loop-page.page-index in
    let ks = c.args.pages.now in
    let inv = c.loop-page.invariant in
    let room = commands_room c.args.fonts.now c.args.doc.now ks i c.loop-page-test.true in
    record {
      page = _;
      among = Contains-get_or ks i 0 c.loop-page-test.true;
      cause = rw inv.kept at c.in-Err.ensures.cause;
      many = many_of _ _ c.in-Err.fault (omega (arith, inv.steps, room)) c.in-Err.ensures.many;
    }

pub loop-page-preserved : goal.loop-page-preserved
loop-page-preserved c =
    let i = c.loop-page.page-index in
    let ks = c.args.pages.now in
    let set = c.args.fonts.now in
    let r = c.args.doc.now in
    let inv = c.loop-page.invariant in
    let step = c.in-Ok.ensures in
    let bytes = rw inv.kept at step.bytes in
    record {
      bytes = omega (arith, inv.bytes, bytes, c.saturating_add-bytes.ensures, lengths_more c.args.walker.now.grid set r ks i c.loop-page-test.true);
      ready = each_more (IsReady c.args.walker.now.grid set r) ks i c.loop-page-test.true inv.ready (rw inv.kept at step.ready);
      put = each_more (IsPutAt c.args.walker.now.grid set r) ks i c.loop-page-test.true inv.put (rw inv.kept at step.put);
      steps = step.steps ∙ omega (arith, inv.steps, commands_more set r ks i c.loop-page-test.true);
      kept = c.measure_page.ensures.kept ∙ inv.kept;
      same = step.same;
    }

pub returns-clause-measured : goal.returns-clause-measured
returns-clause-measured c =
    let all = take_all c.loop-page.page-index c.args.pages.now c.loop-page-test.false in
    let steps = rw all at c.loop-page.invariant.steps in
    record {
      bytes_are = rw all at c.loop-page.invariant.bytes;
      ready = rw all at c.loop-page.invariant.ready;
      put = rw all at c.loop-page.invariant.put;
      few = omega (arith, steps, c.steps.ensures.few, c.steps.ensures.value);
    }
