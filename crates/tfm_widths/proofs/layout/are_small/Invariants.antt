use Rattle.std.proofs.Common.{ℕ, ◌<◌, ◌^◌}
use Rattle.tfm_widths.specs.Lengths.{half}
use Rattle.tfm_widths.proofs.layout.are_small.Given as goal

abbrev pub invariant-loop-i : goal.invariant-loop-i
invariant-loop-i l = (i : ℕ) → i < l.i → half l.bytes i < 2 ^ 15
