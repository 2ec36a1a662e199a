use Rattle.std.proofs.Common.{◌≤◌, ◌-◌, ℕ}
use Rattle.dvi_doc.specs.Steps.{PassedTo}
use Rattle.dvi_doc.proofs.step.pass_commands.Given as goal

abbrev pub invariant-loop-at : goal.invariant-loop-at
invariant-loop-at l =
    record {
      passed : (n : ℕ) × PassedTo n l.bytes l.start l.at;
      further : l.start ≤ l.at;
      within : l.at ≤ l.ends;
    }

abbrev pub decreases-loop-at : goal.decreases-loop-at
decreases-loop-at l = l.ends - l.at
