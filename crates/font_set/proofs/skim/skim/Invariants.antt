use Rattle.std.proofs.Common.{◌≤◌, ◌-◌, ℕ, length}
use Rattle.font_set.specs.Skim.{Passes}
use Rattle.font_set.proofs.skim.skim.Given as goal

abbrev pub invariant-loop-next : goal.invariant-loop-next
invariant-loop-next l =
    record {
      passed : (n : ℕ) × Passes l.agenda.met l.font n l.bytes l.at l.next;
      further : l.at ≤ l.next;
      within : l.next ≤ length l.bytes;
    }

abbrev pub decreases-loop-next : goal.decreases-loop-next
decreases-loop-next l = length l.bytes - l.next
