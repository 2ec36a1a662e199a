use Rattle.std.proofs.lemmas.Result.{err_from_is_err_and}
use Rattle.dv_words.specs.JobView.{list_view}
use Rattle.dv_top.proofs.ListEnds.{begin_failed, is_here, no_pixels, refused_leaves}
use Rattle.dv_top.proofs.list.list_document.Goals as goal

pub returns-in_err-scale-clause-leaves : goal.returns-in_err-scale-clause-leaves
returns-in_err-scale-clause-leaves g c = λ told s kept same.
    let shelf = g.S.Shelf.told in
    let seen = g.T.Tray.seen in
    let job = list_view c.args.job.now in
    let is = is_here job told s c.args.doc.now c.one_document.ensures c.requires.read same in
    let p = err_from_is_err_and c.from_residual.result c.from_residual.ensures.1 in
    rw (p.1, p.2)
    (refused_leaves job told (shelf c.args.shelf.now) (seen c.args.tray.now) c.in_err-scale.field-0.0
    (no_pixels job told (shelf c.args.shelf.now) s c.in_err-scale.field-0.0 (c.in_err-scale.ensures.cause s.source.doc is)))

pub returns-in-Ready-clause-leaves : goal.returns-in-Ready-clause-leaves
returns-in-Ready-clause-leaves g c = λ told s kept same.
    c.list_pages.ensures.leaves told s (g.T.Tray.seen c.args.tray.now) kept same (record { gives = c.in-Ready.ensures.gives; messages = c.in-Ready.ensures.messages })

pub returns-in-Failed-clause-leaves : goal.returns-in-Failed-clause-leaves
returns-in-Failed-clause-leaves g c = λ told s kept same.
    let shelf = g.S.Shelf.told in
    let seen = g.T.Tray.seen in
    let job = list_view c.args.job.now in
    let r = c.args.doc.now in
    let one = c.one_document.ensures in
    let is = is_here job told s r one c.requires.read same in
    begin_failed job told s r one c.requires.read same c.in_ok-scale.scale.units (c.in_ok-scale.ensures.units s.source.doc is) (shelf c.args.shelf.now) kept (shelf c.args.shelf.now) (seen c.args.tray.now) (seen c.begin.new.self)
    c.in-Failed.ensures.gives c.in-Failed.ensures.messages
