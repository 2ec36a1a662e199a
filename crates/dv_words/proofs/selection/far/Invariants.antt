use Rattle.std.proofs.Common.{take}
use Rattle.dv_words.specs.Repeated.{IsFar}
use Rattle.dv_words.proofs.selection.far.Given as goal

abbrev pub invariant-loop-span : goal.invariant-loop-span
invariant-loop-span l = IsFar l.count (take l.span-index l.spans) l.far.items
