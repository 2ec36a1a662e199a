use Rattle.std.proofs.Common.{arith, ◌≤◌, ◌-◌, length, take, drop}
use Rattle.std.proofs.lemmas.List.{length-take, length-drop}
use Rattle.dv_base.specs.TrayLaws.{told_start, told_more, take_joined, kept_start, kept_more}
use Rattle.dv_base.proofs.tray.write_all.Goals as goal

pub loop-at-init : goal.loop-at-init
loop-at-init g c = record { inside = omega arith; outputs = told_start _; keeps = kept_start _ }

pub loop-at-preserved : goal.loop-at-preserved
loop-at-preserved g c =
    let seen = g.T.Tray.seen in
    let text = c.args.text.now in
    let at = c.loop-at.at in
    let gives = c.in-Took.ensures.gives in
    let few : c.in-Took.n ≤ length (take (length text - at) (drop at text)) = gives.1 in
    record {
      inside = omega (arith, length-take (length text - at) (drop at text), length-drop at text);
      outputs = told_more (seen c.args.tray.now).outputs (seen c.loop-at.tray).outputs (seen c.write.new.self).outputs _ _ _ (take_joined at c.in-Took.n text) c.loop-at.invariant.outputs gives.2;
      keeps = kept_more _ _ _ c.loop-at.invariant.keeps c.in-Took.ensures.keeps;
    }
