use Rattle.std.proofs.Common.{◌-◌, ◌<◌, ◌≤◌}
use Rattle.positions.specs.Conditions.{SameCondition}
use Rattle.dv_base.specs.Excess.{Tells, excess}
use Rattle.dvi_ops.specs.Spelling.{byte_at}
use Rattle.vf_expand.specs.Quick.{IsQuick, TookSet}
use Rattle.vf_expand.proofs.run.Run.characters.Given as goal

abbrev pub invariant-loop-at : goal.invariant-loop-at
invariant-loop-at g l =
    record {
      further : l.start ≤ l.at;
      within : l.at < l.end;
      quick : IsQuick l.frame l.first.font (byte_at l.bytes l.at) l.here l.wide;
      set : TookSet g.C.Canvas.takes l.frame l.first.font l.bytes l.start (l.at - l.start) l.fn.pos l.here l.fn.canvas l.canvas;
      told : Tells l.told (excess l.frame.grid.across l.here.h l.here.hh);
      same : SameCondition g.C.Canvas.can l.fn.canvas l.canvas;
    }

abbrev pub decreases-loop-at : goal.decreases-loop-at
decreases-loop-at g l = l.end - l.at
