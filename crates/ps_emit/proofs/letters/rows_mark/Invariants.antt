use Rattle.std.proofs.Common.{◌≡◌}
use Rattle.ps_subset.specs.MaskEffects.{row_bytes, rows_mark}
use Rattle.ps_emit.proofs.letters.rows_mark.Given as goal

abbrev pub invariant-loop-left : goal.invariant-loop-left
invariant-loop-left l = record {
  wide : l.wide ≡ row_bytes l.columns;
  rest : rows_mark l.fn.columns l.rows l.bytes ≡ rows_mark l.columns l.left l.rest;
}

abbrev pub decreases-loop-left : goal.decreases-loop-left
decreases-loop-left l = l.left
