use Rattle.std.proofs.Common.{arith}
use Rattle.std.proofs.lemmas.Int.{ints}
use Rattle.positions.specs.Drift.{is_large_down}
use Rattle.positions.proofs.pos.is_large_down.Goals as goal

pub returns : goal.returns
unfolding is_large_down
returns c = grind (arith, ints)
