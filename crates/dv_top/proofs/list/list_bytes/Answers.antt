use Rattle.std.proofs.Common.{List, ℕ, sym, subst, ◌∙◌}
use Rattle.std.proofs.lemmas.Result.{err_from_is_err_and}
use Rattle.dvi_doc.specs.Grammar.{IsDoc}
use Rattle.dv_words.specs.JobView.{list_view}
use Rattle.dv_top.specs.Listable.{Selected}
use Rattle.dv_top.specs.Reading.{Source}
use Rattle.dv_top.proofs.ListEnds.{not_chosen, not_document, refused_leaves}
use Rattle.dv_top.proofs.list.list_bytes.Goals as goal

pub returns-in_err-doc-clause-leaves : goal.returns-in_err-doc-clause-leaves
returns-in_err-doc-clause-leaves g c = λ told input kept same.
    let shelf = g.S.Shelf.told in
    let seen = g.T.Tray.seen in
    let job = list_view c.args.job.now in
    let p = err_from_is_err_and c.from_residual.result c.from_residual.ensures.1 in
    rw (p.1, p.2)
    (refused_leaves job told (shelf c.args.shelf.now) (seen c.args.tray.now) c.in_err-doc.field-0.0
    (not_document job told (shelf c.args.shelf.now) input c.args.bytes.now c.in_err-doc.field-0.0 same c.in_err-doc.ensures.cause))

pub returns-in_err-places-clause-leaves : goal.returns-in_err-places-clause-leaves
returns-in_err-places-clause-leaves g c = λ told input kept same.
    let shelf = g.S.Shelf.told in
    let seen = g.T.Tray.seen in
    let job = list_view c.args.job.now in
    let p = err_from_is_err_and c.from_residual-in_err-places.result c.from_residual-in_err-places.ensures.1 in
    let found = c.in_ok-doc.ensures.found in
    let bytes = same ∙ sym found.0 in
    let d = found.1.0 in
    let source : Source job.input told = record { input = input; doc = d; is = subst (λ (b : List ℕ). IsDoc b d) (sym bytes) found.1.1 } in
    rw (p.1, p.2)
    (refused_leaves job told (shelf c.args.shelf.now) (seen c.args.tray.now) c.in_err-places.field-0.0
    (not_chosen job told (shelf c.args.shelf.now) source c.in_err-places.field-0.0 (c.in_err-places.ensures.cause d found.1.1)))

pub returns-clause-leaves : goal.returns-clause-leaves
returns-clause-leaves g c = λ told input kept same.
    let job = list_view c.args.job.now in
    let found = c.in_ok-doc.ensures.found in
    let bytes = same ∙ sym found.0 in
    let d = found.1.0 in
    let source : Source job.input told = record { input = input; doc = d; is = subst (λ (b : List ℕ). IsDoc b d) (sym bytes) found.1.1 } in
    let selected : Selected job told = record { source = source; choice = c.in_ok-places.ensures.choice d found.1.1 } in
    c.list_document.ensures.leaves told selected kept bytes
