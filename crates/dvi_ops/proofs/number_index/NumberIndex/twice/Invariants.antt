use Rattle.std.proofs.Common.{◌≡◌, ◌<◌, ◌+◌, ℕ}
use Rattle.dvi_ops.specs.NumberIndex.{number_at}
use Rattle.dvi_ops.proofs.number_index.NumberIndex.twice.Given as goal

abbrev pub invariant-loop-at : goal.invariant-loop-at
invariant-loop-at l = (i : ℕ) → i + 1 < l.at → number_at l.self i ≡ number_at l.self (i + 1) → ⊥
