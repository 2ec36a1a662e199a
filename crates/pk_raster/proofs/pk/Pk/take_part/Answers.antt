use Rattle.std.proofs.Common.{subst, arith}
use Rattle.std.proofs.lemmas.Result.{err_from_is_err_and}
use Rattle.pk_raster.specs.Parts.Part.{Other, Character}
use Rattle.pk_raster.specs.PartFaults.{packet_view, IsPartAt}
use Rattle.pk_raster.specs.declared.part.BodyPart.{BodyPart}
use Rattle.pk_raster.proofs.Filed.{no_part, read_on, read_glyph, not_taken}
use Rattle.pk_raster.proofs.Telling.{no_character, passed_over}
use Rattle.pk_raster.proofs.pk.Pk.take_part.Goals as goal

pub returns-in_err-part-clause-err : goal.returns-in_err-part-clause-err
returns-in_err-part-clause-err c =
    let p = err_from_is_err_and c.from_residual.result c.from_residual.ensures.1 in
    rw (p.1, p.2) (no_part c.args.bytes.now c.args.most c.args.self.now c.args.at c.in_err-part.field-0.0 c.requires.reached c.requires.body c.in_err-part.ensures.fault)

pub returns-in-Other-clause-ok : goal.returns-in-Other-clause-ok
returns-in-Other-clause-ok c =
    let bytes = c.args.bytes.now in
    let T : BodyPart → Type 0 = λ p. IsPartAt bytes c.args.at p c.in_ok-part.next in
    let t = subst T c.in-Other.is c.in_ok-part.ensures.found in
    read_on bytes c.args.most c.args.self.now c.args.at Other c.in_ok-part.next c.requires.reached t.within t.found no_character

pub returns-else-packet-le255-clause-ok : goal.returns-else-packet-le255-clause-ok
returns-else-packet-le255-clause-ok c =
    let bytes = c.args.bytes.now in
    let T : BodyPart → Type 0 = λ p. IsPartAt bytes c.args.at p c.in_ok-part.next in
    let t = subst T c.in-Character.is c.in_ok-part.ensures.found in
    let p = packet_view c.in-Character.packet in
    read_on bytes c.args.most c.args.self.now c.args.at (Character p) c.in_ok-part.next c.requires.reached t.within t.found (passed_over p (omega (arith, c.if-packet-le255.false)))

pub returns-in_ok-add-in-Character-clause-ok : goal.returns-in_ok-add-in-Character-clause-ok
returns-in_ok-add-in-Character-clause-ok c =
    let bytes = c.args.bytes.now in
    let T : BodyPart → Type 0 = λ p. IsPartAt bytes c.args.at p c.in_ok-part.next in
    let t = subst T c.in-Character.is c.in_ok-part.ensures.found in
    let p = packet_view c.in-Character.packet in
    let a = c.in_ok-add-in-Character.ensures.ok in
    read_glyph bytes c.args.most c.args.self.now c.args.at p c.in_ok-part.next a.0 c.add.new.self c.requires.reached t.within t.found (omega (arith, c.if-packet-le255.true)) a.2 a.1 a.3 c.in_ok-add-in-Character.ensures.fits

pub returns-in_err-add-in-Character-clause-err : goal.returns-in_err-add-in-Character-clause-err
returns-in_err-add-in-Character-clause-err c =
    let bytes = c.args.bytes.now in
    let T : BodyPart → Type 0 = λ p. IsPartAt bytes c.args.at p c.in_ok-part.next in
    let t = subst T c.in-Character.is c.in_ok-part.ensures.found in
    let p = packet_view c.in-Character.packet in
    let q = err_from_is_err_and c.from_residual-in_err-add-in-Character.result c.from_residual-in_err-add-in-Character.ensures.1 in
    rw (q.1, q.2) (not_taken bytes c.args.most c.args.self.now c.args.at p c.in_ok-part.next c.in_err-add-in-Character.field-0.0 c.requires.reached t.within t.found (omega (arith, c.if-packet-le255.true)) c.in_err-add-in-Character.ensures.err)
