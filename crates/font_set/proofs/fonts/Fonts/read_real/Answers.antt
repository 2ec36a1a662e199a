use Rattle.std.proofs.lemmas.Result.{err_from_is_err_and}
use Rattle.font_set.specs.Views.{key_of}
use Rattle.font_set.proofs.Shelves.{loaded_before}
use Rattle.font_set.proofs.fonts.Fonts.read_real.Goals as goal

pub returns-in_err-read_pk-in-Rasters-clause-fault : goal.returns-in_err-read_pk-in-Rasters-clause-fault
returns-in_err-read_pk-in-Rasters-clause-fault g c =
    let a = g.S.Shelf.told c.args.shelf.now in
    let b = g.S.Shelf.told c.read_tfm.new.shelf in
    let d = g.S.Shelf.told c.read_pk.new.shelf in
    let p = err_from_is_err_and c.from_residual-in_err-read_pk-in-Rasters.result c.from_residual-in_err-read_pk-in-Rasters.ensures.1 in
    rw (p.1, p.2)
    (loaded_before c.args.self.now (key_of c.args.key.now) a b d c.read_tfm.ensures.keeps c.in_err-read_pk-in-Rasters.field-0.0 c.in_err-read_pk-in-Rasters.ensures.fault)
