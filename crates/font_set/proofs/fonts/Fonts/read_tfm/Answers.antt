use Rattle.std.proofs.Common.{inl, refl}
use Rattle.std.proofs.lemmas.Result.{err_from_is_err_and}
use Rattle.font_set.specs.Views.{key_of}
use Rattle.font_set.proofs.Shelves.{not_read}
use Rattle.font_set.proofs.fonts.Fonts.read_tfm.Goals as goal

pub returns-in_err-bytes-clause-fault : goal.returns-in_err-bytes-clause-fault
returns-in_err-bytes-clause-fault g c =
    let p = err_from_is_err_and c.from_residual.result c.from_residual.ensures.1 in
    rw (p.1, p.2)
    (not_read c.args.self.now (key_of c.args.key.now) c.appended-name.result 131068 (g.S.Shelf.told c.args.shelf.now) (g.S.Shelf.told c.read_file.new.shelf) c.in_err-bytes.field-0.0
    (inl (c.appended-name.ensures, refl)) c.in_err-bytes.ensures.fault)
