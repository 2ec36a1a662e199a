use Rattle.tfm_widths.specs.Widths.{AreWidths}
use Rattle.tfm_widths.proofs.layout.Layout.check_widths.Given as goal

abbrev pub invariant-loop-i : goal.invariant-loop-i
invariant-loop-i l = AreWidths l.bytes l.i
