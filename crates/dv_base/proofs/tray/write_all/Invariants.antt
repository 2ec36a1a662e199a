use Rattle.std.proofs.Common.{length, take, ◌-◌, ◌≤◌}
use Rattle.dv_base.specs.Tray.{WhereTold, Appends, KeepsNames}
use Rattle.dv_base.proofs.tray.write_all.Given as goal

abbrev pub invariant-loop-at : goal.invariant-loop-at
invariant-loop-at g l =
    let seen = g.T.Tray.seen in
    record {
      inside : l.at ≤ length l.text;
      outputs : WhereTold (Appends (take l.at l.text)) (seen l.fn.tray).outputs (seen l.tray).outputs;
      keeps : KeepsNames (seen l.fn.tray) (seen l.tray);
    }

abbrev pub decreases-loop-at : goal.decreases-loop-at
decreases-loop-at g l = length l.text - l.at
