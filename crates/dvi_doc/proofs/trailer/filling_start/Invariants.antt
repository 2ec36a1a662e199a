use Rattle.std.proofs.Common.{◌≡◌, ◌≤◌, ◌<◌, length, ℕ}
use Rattle.dvi_ops.specs.Spelling.{byte_at}
use Rattle.dvi_doc.proofs.trailer.filling_start.Given as goal

abbrev pub invariant-loop-at : goal.invariant-loop-at
invariant-loop-at l =
    record {
      inside : l.at ≤ length l.bytes;
      fills : (place : ℕ) → l.at ≤ place → place < length l.bytes → byte_at l.bytes place ≡ 223;
    }

abbrev pub decreases-loop-at : goal.decreases-loop-at
decreases-loop-at l = l.at
