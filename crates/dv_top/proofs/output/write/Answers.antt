use Rattle.std.proofs.Common.{arith, length, refl, ap, inl}
use Rattle.std.proofs.lemmas.Result.{err_from_is_err_and}
use Rattle.dv_top.proofs.PagesAt.{many_pages, pages_here}
use Rattle.dv_top.proofs.WrittenJob.{known, written_front, written_whole}
use Rattle.dv_top.proofs.WrittenPages.{all_printed}
use Rattle.dv_top.proofs.output.write.Goals as goal

pub overflow_cast-result-in-Ready : goal.overflow_cast-result-in-Ready
overflow_cast-result-in-Ready g c = let few = c.requires.sections in let many = c.requires.few in search (arith, few, many)

pub returns-in_ok-bytes-in-Ready-clause-leaves : goal.returns-in_ok-bytes-in-Ready-clause-leaves
returns-in_ok-bytes-in-Ready-clause-leaves g c = λ told p is.
    let seen = g.T.Tray.seen in
    let k = known c.one_document.ensures p c.args.doc.now c.args.parts.now c.args.walker.now c.args.fonts.now c.requires.job c.requires.walkable c.requires.few c.requires.known c.requires.rows c.requires.width c.requires.height is in
    written_whole p c.args.doc.now c.args.parts.now c.args.walker.now c.args.fonts.now k c.as_str.result.now c.as_str.ensures.value (seen c.args.tray.now) (seen c.begin.new.self) (seen c.write_output.new.tray)
    c.text_shows.ensures c.text_spares.ensures c.in-Ready.ensures.gives c.in-Ready.ensures.messages (c.in_ok-bytes-in-Ready.ensures.writes k.pages k.are p.pages k.printed_are) _ refl (ap length c.as_slice.ensures) (c.in_ok-bytes-in-Ready.ensures.bytes k.pages k.are p.pages k.printed_are)

pub returns-in_ok-bytes-in-Ready-clause-later : goal.returns-in_ok-bytes-in-Ready-clause-later
returns-in_ok-bytes-in-Ready-clause-later g c =
    let w = c.requires.walkable in
    let are = pages_here c.one_document.ensures c.args.doc.now w.read.0 c.args.parts.now.places.now w.read w.read.1 w.within in
    let many = many_pages c.args.doc.now c.args.parts.now.places.now _ are in
    let all = all_printed c.args.walker.now.grid c.args.fonts.now c.args.doc.now.fonts 1 _ (let few = c.requires.few in omega (arith, few, many)) (w.ready _ are) in
    let wrote = c.in_ok-bytes-in-Ready.ensures.writes _ are all.pages all.printed in
    let after = wrote.keeps.later in
    let before = c.in-Ready.ensures.later in
    omega (arith, after, before)

pub returns-in_err-bytes-in-Ready-clause-later : goal.returns-in_err-bytes-in-Ready-clause-later
returns-in_err-bytes-in-Ready-clause-later g c =
    let w = c.requires.walkable in
    let are = pages_here c.one_document.ensures c.args.doc.now w.read.0 c.args.parts.now.places.now w.read w.read.1 w.within in
    let many = many_pages c.args.doc.now c.args.parts.now.places.now _ are in
    let all = all_printed c.args.walker.now.grid c.args.fonts.now c.args.doc.now.fonts 1 _ (let few = c.requires.few in omega (arith, few, many)) (w.ready _ are) in
    let cut = c.in_err-bytes-in-Ready.ensures.writes _ are all.pages all.printed in
    let after = cut.keeps.later in
    let before = c.in-Ready.ensures.later in
    omega (arith, after, before)

pub returns-in_err-bytes-in-Ready-clause-leaves : goal.returns-in_err-bytes-in-Ready-clause-leaves
returns-in_err-bytes-in-Ready-clause-leaves g c =
    let q = err_from_is_err_and c.from_residual.result c.from_residual.ensures.1 in
    let seen = g.T.Tray.seen in
    rw (q.1, q.2) (λ told p is.
    let k = known c.one_document.ensures p c.args.doc.now c.args.parts.now c.args.walker.now c.args.fonts.now c.requires.job c.requires.walkable c.requires.few c.requires.known c.requires.rows c.requires.width c.requires.height is in
    inl (written_front p c.args.doc.now c.args.parts.now c.args.walker.now c.args.fonts.now k c.as_str.result.now c.as_str.ensures.value (seen c.args.tray.now) (seen c.begin.new.self) (seen c.write_output.new.tray)
    c.text_shows.ensures c.cut_text_shows.ensures c.text_spares.ensures c.cut_text_spares.ensures c.in-Ready.ensures.gives c.in-Ready.ensures.messages (c.in_err-bytes-in-Ready.ensures.writes k.pages k.are p.pages k.printed_are)))
