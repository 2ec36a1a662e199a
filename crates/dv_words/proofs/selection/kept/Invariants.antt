use Rattle.std.proofs.Common.{◌≡◌}
use Rattle.dv_words.proofs.Kept.{IsKept}
use Rattle.dv_words.proofs.Reach.{far_below}
use Rattle.dv_words.proofs.selection.kept.Given as goal

abbrev pub invariant-loop-place : goal.invariant-loop-place
invariant-loop-place l = record { kept : IsKept l.numbers l.spans l.parity l.place l.places.items; reach : l.stop ≡ far_below l.spans l.place }
