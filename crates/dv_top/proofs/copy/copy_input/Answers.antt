use Rattle.std.proofs.Common.{refl, sym}
use Rattle.std.proofs.lemmas.Result.{err_from_is_err_and}
use Rattle.dv_base.specs.FileName.{text_of}
use Rattle.dv_words.specs.JobView.{copy_view}
use Rattle.dv_top.proofs.CopyRefused.{not_read, refused}
use Rattle.dv_top.proofs.copy.copy_input.Goals as goal

pub returns-in_err-bytes-clause-leaves : goal.returns-in_err-bytes-clause-leaves
returns-in_err-bytes-clause-leaves g c =
    let told = g.S.Shelf.told in
    let seen = g.T.Tray.seen in
    let p = err_from_is_err_and c.from_residual.result c.from_residual.ensures.1 in
    rw (p.1, p.2)
    (refused (copy_view c.args.job.now) (told c.args.shelf.now) (told c.read_input.new.shelf) (seen c.args.tray.now) c.in_err-bytes.field-0.0
    (not_read (copy_view c.args.job.now) (told c.args.shelf.now) (told c.read_input.new.shelf) (text_of c.args.job.now.input) c.in_err-bytes.field-0.0 refl c.in_err-bytes.ensures.cause))

pub returns-clause-leaves : goal.returns-clause-leaves
returns-clause-leaves g c =
    let told = g.S.Shelf.told in
    c.copy_bytes.ensures.leaves (told c.args.shelf.now) (record { bytes = c.in_ok-bytes.bytes.items; few = c.in_ok-bytes.ensures.bytes.0; held = c.in_ok-bytes.ensures.bytes.1 }) c.read_input.ensures.keeps (sym c.deref.ensures.value)
