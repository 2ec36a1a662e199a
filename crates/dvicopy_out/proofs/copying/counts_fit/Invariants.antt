use Rattle.std.proofs.Common.{take}
use Rattle.std.specs.List.{All}
use Rattle.dvi_ops.specs.Shortest.{IsWord}
use Rattle.dvicopy_out.proofs.copying.counts_fit.Given as goal

abbrev pub invariant-loop-count : goal.invariant-loop-count
invariant-loop-count l = record { words : All IsWord (take l.count-index l.counts) }
