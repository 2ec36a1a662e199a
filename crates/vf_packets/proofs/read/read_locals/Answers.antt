use Rattle.std.proofs.Common.{refl}
use Rattle.std.specs.Prelude.{map}
use Rattle.std.proofs.lemmas.Result.{err_from_is_err_and}
use Rattle.vf_packets.specs.Font.{numbers_of}
use Rattle.vf_packets.specs.LocalViews.{local_view}
use Rattle.vf_packets.proofs.Locating.{not_taken}
use Rattle.vf_packets.proofs.read.read_locals.Goals as goal

pub returns-in_err-new-clause-err : goal.returns-in_err-new-clause-err
returns-in_err-new-clause-err c =
    let bytes = c.args.bytes.now in
    let fonts = map local_view c.definitions.fonts.items in
    let p = err_from_is_err_and c.from_residual-in_err-new.result c.from_residual-in_err-new.ensures.1 in
    rw (p.1, p.2) (not_taken c.one_spelling.ensures bytes fonts c.definitions.at (numbers_of fonts) c.in_err-new.field-0.0 c.definitions.invariant refl c.in_err-new.ensures.fault)
