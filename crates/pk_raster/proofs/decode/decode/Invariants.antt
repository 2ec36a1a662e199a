use Rattle.std.proofs.Common.{◌≡◌, ◌*◌, ◌-◌, length}
use Rattle.pk_raster.specs.Numbers.{nybbles}
use Rattle.pk_raster.specs.Bits.{colour}
use Rattle.pk_raster.specs.Progress.{Reached}
use Rattle.pk_raster.proofs.decode.decode.Given as goal

abbrev pub invariant-items : goal.invariant-items
invariant-items l = record {
  reached : Reached l.dyn_f (colour l.initial.black) l.fn.board.width l.fn.board.left (nybbles l.raster) l.at (colour l.black) l.board;
  size : length l.board.row.items ≡ length l.fn.board.row.items;
}

abbrev pub decreases-items : goal.decreases-items
decreases-items l = 2 * length l.raster - l.at
