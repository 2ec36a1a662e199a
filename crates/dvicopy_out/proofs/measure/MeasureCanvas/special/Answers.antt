use Rattle.std.proofs.Common.{◌++◌, ℕ, List, arith, ap, refl, length, length-append}
use Rattle.positions.specs.MarkOf.{special_of}
use Rattle.dvicopy_out.specs.Measured.{pen_of}
use Rattle.dvicopy_out.proofs.Spelling.{a_special}
use Rattle.dvicopy_out.proofs.Takes.{one_measured}
use Rattle.dvicopy_out.proofs.measure.MeasureCanvas.special.Goals as goal

pub returns-clause-ok : goal.returns-clause-ok
returns-clause-ok c =
    let m = c.args.mark.now in
    one_measured c.args.self.now _ (special_of m) (c.special.new.script ++ m.bytes.now) refl c.special.ensures.pen
    (a_special (pen_of c.args.self.now) m.h m.v m.bytes.now c.special.new.script c.special.ensures.value)
    (omega (arith, c.saturating_add-self.ensures, ap (λ (xs : List ℕ). length xs) c.as_slice.ensures, length-append c.special.new.script m.bytes.now))
