use Rattle.std.proofs.Common.{w64}
use Rattle.std.proofs.lemmas.Int.{to_z-of_z}
use Rattle.std.proofs.lemmas.Result.{err_from_is_err_and}
use Rattle.dvitype_list.proofs.Widening.{no_char_by, unread_fault}
use Rattle.dvitype_list.proofs.fonts.read_width.Goals as goal

pub returns-in_err-load-clause-fault : goal.returns-in_err-load-clause-fault
returns-in_err-load-clause-fault g c =
    let told = g.S.Shelf.told in
    let p = err_from_is_err_and c.from_residual.result c.from_residual.ensures.1 in
    rw (p.1, p.2) (unread_fault c.load.new.fonts (told c.args.shelf.now) (told c.load.new.shelf) c.args.id c.args.z _ c.in_err-load.ensures.fault)

pub returns-clause-fault : goal.returns-clause-fault
returns-clause-fault g c =
    let told = g.S.Shelf.told in
    no_char_by c.load.new.fonts (told c.args.shelf.now) (told c.load.new.shelf) c.args.id c.args.z c.wide.result c.in_ok-load.ensures.loaded (rw (to_z-of_z w64 c.args.z c.ranges.z) at c.wide.ensures.fault)
