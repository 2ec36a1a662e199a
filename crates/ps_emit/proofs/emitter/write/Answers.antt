use Rattle.std.proofs.Common.{arith, ◌≤◌, ◌≡◌, ◌-◌, length, take, drop, subst}
use Rattle.std.proofs.lemmas.List.{length-take, length-drop}
use Rattle.dv_base.specs.TrayLaws.{take_joined}
use Rattle.ps_emit.specs.Written.{Out, Wrote, wrote_nothing, wrote_more}
use Rattle.ps_emit.proofs.emitter.write.Goals as goal

pub loop-at-init : goal.loop-at-init
loop-at-init g c = record { inside = omega arith; begun = c.requires.begun; wrote = wrote_nothing _ c.requires.fits }

pub loop-at-preserved : goal.loop-at-preserved
loop-at-preserved g c =
    let seen = g.T.Tray.seen in
    let text = c.args.text.now in
    let at = c.loop-at.at in
    let n = c.in-Took.n in
    let piece = take (length text - at) (drop at text) in
    let gives = c.in-Took.ensures.gives in
    let few : n ≤ length piece = gives.1 in
    let first : Out = record { seen = seen c.args.tray.now; count = c.args.count.now } in
    let before : Out = record { seen = seen c.loop-at.tray; count = c.loop-at.count } in
    let behind : Out = record { seen = seen c.write.new.self; count = c.saturating_add.result } in
    let taken : length (take n piece) ≡ n = omega (arith, length-take n piece, few) in
    let step : Wrote (take n piece) before behind = record {
      bytes = gives.2;
      keeps = c.in-Took.ensures.keeps;
      count = omega (arith, c.saturating_add.ensures, taken);
    } in
    record {
      inside = omega (arith, length-take (length text - at) (drop at text), length-drop at text, few);
      begun = omega (arith, c.in-Took.ensures.keeps.begun_same, c.loop-at.invariant.begun);
      wrote = subst (λ bs. Wrote bs first behind) (take_joined at n text) (wrote_more (take at text) (take n piece) first before behind c.loop-at.invariant.wrote step);
    }
