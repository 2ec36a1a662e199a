use Rattle.std.proofs.Common.{◌≡◌, ◌≤◌, ◌+◌, ◌*◌, ◌++◌, length, codes, take}
use Rattle.ps_subset.specs.Strings.{escapes}
use Rattle.ps_emit.proofs.items.string.Given as goal

abbrev pub invariant-loop-c : goal.invariant-loop-c
invariant-loop-c l = record {
  value : l.out ≡ l.fn.out ++ (codes "(" ++ escapes (take l.c-index l.codes));
  len : length l.out ≤ length l.fn.out + (4 * l.c-index + 1);
}
