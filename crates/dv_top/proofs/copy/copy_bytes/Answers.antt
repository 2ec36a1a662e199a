use Rattle.std.proofs.Common.{List, ℕ, refl, sym, subst, ◌∙◌}
use Rattle.std.proofs.lemmas.Result.{err_from_is_err_and}
use Rattle.dvi_doc.specs.Grammar.{IsDoc}
use Rattle.dv_words.specs.JobView.{copy_view}
use Rattle.dv_top.specs.Reading.{Source}
use Rattle.dv_top.specs.Wanted.{Wanted}
use Rattle.dv_top.proofs.CopyRefused.{not_chosen, not_document, refused}
use Rattle.dv_top.proofs.copy.copy_bytes.Goals as goal

pub returns-in_err-doc-clause-leaves : goal.returns-in_err-doc-clause-leaves
returns-in_err-doc-clause-leaves g c = λ told input kept same.
    let shelf = g.S.Shelf.told in
    let seen = g.T.Tray.seen in
    let p = err_from_is_err_and c.from_residual.result c.from_residual.ensures.1 in
    rw (p.1, p.2)
    (refused (copy_view c.args.job.now) told (shelf c.args.shelf.now) (seen c.args.tray.now) c.in_err-doc.field-0.0
    (not_document (copy_view c.args.job.now) told (shelf c.args.shelf.now) input c.args.bytes.now c.in_err-doc.field-0.0 same c.in_err-doc.ensures.cause))

pub returns-in_err-places-clause-leaves : goal.returns-in_err-places-clause-leaves
returns-in_err-places-clause-leaves g c = λ told input kept same.
    let shelf = g.S.Shelf.told in
    let seen = g.T.Tray.seen in
    let p = err_from_is_err_and c.from_residual-in_err-places.result c.from_residual-in_err-places.ensures.1 in
    let found = c.in_ok-doc.ensures.found in
    let bytes = same ∙ sym found.0 in
    let d = found.1.0 in
    let source : Source (copy_view c.args.job.now).input told = record { input = input; doc = d; is = subst (λ (b : List ℕ). IsDoc b d) (sym bytes) found.1.1 } in
    rw (p.1, p.2)
    (refused (copy_view c.args.job.now) told (shelf c.args.shelf.now) (seen c.args.tray.now) c.in_err-places.field-0.0
    (not_chosen (copy_view c.args.job.now) told (shelf c.args.shelf.now) source c.in_err-places.field-0.0 (c.in_err-places.ensures.cause d found.1.1)))

pub returns-clause-leaves : goal.returns-clause-leaves
returns-clause-leaves g c = λ told input kept same.
    let found = c.in_ok-doc.ensures.found in
    let bytes = same ∙ sym found.0 in
    let d = found.1.0 in
    let source : Source (copy_view c.args.job.now).input told = record { input = input; doc = d; is = subst (λ (b : List ℕ). IsDoc b d) (sym bytes) found.1.1 } in
    let wanted : Wanted (copy_view c.args.job.now) told = record { source = source; choice = c.in_ok-places.ensures.choice d found.1.1 } in
    c.copy_document.ensures.leaves told wanted kept bytes

pub copy_document-requires-clause-chosen : goal.copy_document-requires-clause-chosen
copy_document-requires-clause-chosen g c = λ d is. c.deref.ensures.value ∙ c.in_ok-places.ensures.places d (subst (λ (b : List ℕ). IsDoc b d) refl is)
