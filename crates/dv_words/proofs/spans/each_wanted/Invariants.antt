use Rattle.std.proofs.Common.{◌≡◌, map, take}
use Rattle.dv_words.specs.Selection.{one_of}
use Rattle.dv_words.proofs.spans.each_wanted.Given as goal

abbrev pub invariant-loop-window : goal.invariant-loop-window
invariant-loop-window l = l.wanted.items ≡ map one_of (take l.window-index l.list)
