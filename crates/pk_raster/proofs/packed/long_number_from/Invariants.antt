use Rattle.std.proofs.Common.{◌≡◌, ℕ, ◌-◌, ◌<◌, ◌≤◌, ◌^◌, take, drop, min}
use Rattle.pk_raster.specs.Numbers.{nybbles, behind}
use Rattle.pk_raster.proofs.packed.long_number_from.Given as goal

abbrev pub invariant-loop-place : goal.invariant-loop-place
invariant-loop-place l = record {
  one : 0 < l.value;
  many : l.at < l.place → 16 ≤ l.value;
  read : (n : ℕ) × (l.value ≡ min n (2 ^ 41)) × (behind n (take (l.end - l.place) (drop l.place (nybbles l.raster))) ≡ behind l.first (take l.zeros (drop l.at (nybbles l.raster))));
}
