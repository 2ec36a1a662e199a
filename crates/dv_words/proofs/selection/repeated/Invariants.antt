use Rattle.std.proofs.Common.{◌≡◌}
use Rattle.dv_words.specs.Selection.{times}
use Rattle.dv_words.proofs.selection.repeated.Given as goal

abbrev pub invariant-loop-round : goal.invariant-loop-round
invariant-loop-round l = l.all.items ≡ times l._round l.places.items
