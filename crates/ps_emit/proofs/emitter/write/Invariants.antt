use Rattle.std.proofs.Common.{length, ◌-◌, ◌<◌, ◌≤◌, take}
use Rattle.ps_emit.specs.Written.{Wrote}
use Rattle.ps_emit.proofs.emitter.write.Given as goal

abbrev pub invariant-loop-at : goal.invariant-loop-at
invariant-loop-at g l =
    let seen = g.T.Tray.seen in
    record {
      inside : l.at ≤ length l.text;
      begun : 0 < (seen l.tray).begun;
      wrote : Wrote (take l.at l.text) (record { seen = seen l.fn.tray; count = l.fn.count }) (record { seen = seen l.tray; count = l.count });
    }

abbrev pub decreases-loop-at : goal.decreases-loop-at
decreases-loop-at g l = length l.text - l.at
