use Rattle.tfm_widths.specs.Widths.{AreIndexed}
use Rattle.tfm_widths.proofs.layout.Layout.check_indices.Given as goal

abbrev pub invariant-loop-code : goal.invariant-loop-code
invariant-loop-code l = AreIndexed l.bytes l.code
