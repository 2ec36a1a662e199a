use Rattle.std.proofs.Common.{rules, w64}
use Rattle.std.specs.Prelude.{FitsSigned}
use Rattle.std.proofs.lemmas.Int.{to_z-of_z}
use Rattle.dvicopy_out.proofs.Spelling.{a_glyph}
use Rattle.dvicopy_out.proofs.pen.Pen.glyph.Goals as goal

pub returns-clause-value : goal.returns-clause-value
returns-clause-value c =
    let m = c.args.mark.now in
    let hh : FitsSigned w64 m.h = search rules in
    let hv : FitsSigned w64 m.v = search rules in
    let hw : FitsSigned w64 m.width = search rules in
    a_glyph c.args.self.now c.go.new.self c.select.new.self c.args.number m.code m.h m.v m.width c.go.new.script c.select.new.script c.show.new.script
    (rw (to_z-of_z w64 m.h hh, to_z-of_z w64 m.v hv) at c.go.ensures.value)
    (rw (to_z-of_z w64 m.h hh, to_z-of_z w64 m.v hv) at c.go.ensures.pen)
    c.select.ensures.value c.select.ensures.pen (rw (to_z-of_z w64 m.width hw) at c.show.ensures.value)
