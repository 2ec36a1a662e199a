use Rattle.std.proofs.Common.{◌≡◌, ℕ, List, ◌*◌, ◌<◌, ◌≤◌, length}
use Rattle.pk_raster.specs.Filling.{Shows, Mid}
use Rattle.pk_raster.specs.Bits.{colour}
use Rattle.pk_raster.proofs.lay.lay.Given as goal

abbrev pub invariant-rows : goal.invariant-rows
invariant-rows l = record {
  shown : (part : List ℕ) (made : List (List ℕ)) → Shows l.fn.board part made → Mid (colour l.black) l.count l.fn.board part made l.board l.rest;
  below : l.board.filled < l.board.width;
  fits : l.board.width ≤ 8 * length l.board.row.items;
  size : length l.board.row.items ≡ length l.fn.board.row.items;
  room : 0 < l.board.left → l.board.repeat < l.board.left;
  closed : l.board.left ≡ 0 → (l.board.filled ≡ 0) × (l.board.repeat ≡ 0);
}

abbrev pub decreases-rows : goal.decreases-rows
decreases-rows l = l.rest
