use Rattle.std.proofs.Common.{◌≡◌, ◌≤◌, ◌+◌, ◌*◌, ◌++◌, length, take}
use Rattle.dvitype_list.specs.Texts.{more_counts}
use Rattle.dvitype_list.proofs.lines.more_counts.Given as goal

abbrev pub invariant-loop-count : goal.invariant-loop-count
invariant-loop-count l =
    record {
      value : l.line ≡ l.fn.line ++ more_counts (take l.count-index l.counts);
      len : length l.line ≤ length l.fn.line + 50 * l.count-index;
    }
