use Rattle.std.proofs.Common.{arith}
use Rattle.std.proofs.lemmas.Int.{ints}
use Rattle.positions.specs.Drift.{is_large_across}
use Rattle.positions.proofs.pos.is_large_across.Goals as goal

pub returns-then-q-space : goal.returns-then-q-space
unfolding is_large_across
returns-then-q-space c = grind (arith, ints)

pub returns-else-q-space : goal.returns-else-q-space
unfolding is_large_across
returns-else-q-space c = grind (arith, ints)
