use Rattle.std.proofs.Common.{◌≡◌, ◌+◌, ◌<◌, ◌≤◌, drop}
use Rattle.pk_raster.specs.Numbers.{nybbles, long}
use Rattle.pk_raster.proofs.packed.long_number.Given as goal

abbrev pub invariant-loop-place : goal.invariant-loop-place
invariant-loop-place l = record {
  count : l.zeros ≤ l.place + 1;
  some : 0 < l.zeros;
  same : long l.dyn_f l.zeros (drop l.place (nybbles l.raster)) ≡ long l.dyn_f 1 (drop l.at (nybbles l.raster));
}
