use Rattle.std.proofs.Common.{length}
use Rattle.dv_words.proofs.Lists.{Reading}
use Rattle.dv_words.proofs.ranges.read_windows.Given as goal

abbrev pub invariant-loop-window : goal.invariant-loop-window
invariant-loop-window l = Reading l.list l.initial.windows.items l.windows.items l.rest

abbrev pub decreases-loop-window : goal.decreases-loop-window
decreases-loop-window l = length l.rest
