use Rattle.std.proofs.Common.{sym, rules}
use Rattle.pk_raster.proofs.Nybbles.{high, low}
use Rattle.pk_raster.proofs.packed.nybble.Goals as goal

pub returns-then-at-eq0-clause-value : goal.returns-then-at-eq0-clause-value
returns-then-at-eq0-clause-value c = sym (high c.args.raster.now c.args.at (search rules))

pub returns-else-at-eq0-clause-value : goal.returns-else-at-eq0-clause-value
returns-else-at-eq0-clause-value c = sym (low c.args.raster.now c.args.at (search rules))
