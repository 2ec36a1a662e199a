use Rattle.std.proofs.Common.{◌-◌, ◌≤◌}
use Rattle.vf_expand.specs.Nops.{AreNops}
use Rattle.vf_expand.proofs.nop.behind_nops.Given as goal

abbrev pub invariant-loop-at : goal.invariant-loop-at
invariant-loop-at l =
    record {
      further : l.start ≤ l.at;
      within : l.at ≤ l.end;
      nops : AreNops l.bytes l.start l.at;
    }

abbrev pub decreases-loop-at : goal.decreases-loop-at
decreases-loop-at l = l.end - l.at
