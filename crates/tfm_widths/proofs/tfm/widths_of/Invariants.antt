use Rattle.std.proofs.Common.{◌≡◌}
use Rattle.tfm_widths.specs.Widths.{widths_below}
use Rattle.tfm_widths.proofs.tfm.widths_of.Given as goal

abbrev pub invariant-loop-code : goal.invariant-loop-code
invariant-loop-code l = l.widths.items ≡ widths_below l.bytes l.code
