use Rattle.std.proofs.Common.{ℕ, List, arith, ap, refl, length}
use Rattle.positions.specs.MarkOf.{rule_of}
use Rattle.dvicopy_out.proofs.Takes.{one_measured}
use Rattle.dvicopy_out.proofs.measure.MeasureCanvas.rule.Goals as goal

pub returns-clause-ok : goal.returns-clause-ok
returns-clause-ok c =
    one_measured c.args.self.now _ (rule_of c.args.mark.now) c.rule.new.script refl c.rule.ensures.pen c.rule.ensures.value
    (omega (arith, c.saturating_add-self.ensures, ap (λ (xs : List ℕ). length xs) c.as_slice.ensures))
