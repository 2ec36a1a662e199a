use Rattle.std.proofs.Common.{◌≡◌, ◌≤◌, ◌+◌, ◌*◌, ◌++◌, length, take}
use Rattle.dv_top.specs.Escaped.{escaped}
use Rattle.dv_top.proofs.warnings.escape.Given as goal

abbrev pub invariant-loop-byte : goal.invariant-loop-byte
invariant-loop-byte l =
    record {
      value : l.line ≡ l.fn.line ++ escaped (take l.byte-index l.bytes);
      room : length l.line ≤ length l.fn.line + l.byte-index * 3;
    }
