use Rattle.std.proofs.Common.{◌≡◌, ◌*◌, length}
use Rattle.bit_lanes.specs.Bits.{bits}
use Rattle.pk_raster.specs.Filling.{Copied}
use Rattle.pk_raster.proofs.plain.plain.Given as goal

abbrev pub invariant-loop-index : goal.invariant-loop-index
invariant-loop-index l = record {
  place : l.start ≡ l.index * l.width;
  len : length l.row ≡ length l.fn.row;
  copied : Copied l.width l.index (length l.fn.row) (bits l.raster) l.rows.items;
}
