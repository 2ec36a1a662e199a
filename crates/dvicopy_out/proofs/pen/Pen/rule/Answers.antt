use Rattle.std.proofs.Common.{rules, w32, w64}
use Rattle.std.specs.Prelude.{FitsSigned}
use Rattle.std.proofs.lemmas.Int.{to_z-of_z, fits_signed_from_abs}
use Rattle.dvicopy_out.proofs.Spelling.{a_rule}
use Rattle.dvicopy_out.proofs.pen.Pen.rule.Goals as goal

pub returns-clause-value : goal.returns-clause-value
returns-clause-value c =
    let m = c.args.mark.now in
    let hh : FitsSigned w64 m.h = search rules in
    let hv : FitsSigned w64 m.v = search rules in
    let wa : FitsSigned w64 m.a = search rules in
    let wb : FitsSigned w64 m.b = search rules in
    let na : FitsSigned w32 m.a = fits_signed_from_abs w32 m.a c.requires.a in
    let nb : FitsSigned w32 m.b = fits_signed_from_abs w32 m.b c.requires.b in
    a_rule c.args.self.now m.h m.v m.a m.b c.go.new.script c.command.new.self
    (rw (to_z-of_z w64 m.h hh, to_z-of_z w64 m.v hv) at c.go.ensures.value)
    (simp (to_z-of_z w64 m.a wa, to_z-of_z w64 m.b wb, to_z-of_z w32 m.a na, to_z-of_z w32 m.b nb) at c.command.ensures.value)
