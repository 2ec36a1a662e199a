use Rattle.std.proofs.Common.{length, ◌-◌}
use Rattle.pk_raster.specs.Faults.{ReadSo}
use Rattle.pk_raster.proofs.pk.Pk.read.Given as goal

abbrev pub invariant-parts : goal.invariant-parts
invariant-parts l = ReadSo l.bytes l.most l.pk l.at

abbrev pub decreases-parts : goal.decreases-parts
decreases-parts l = length l.bytes - l.at
