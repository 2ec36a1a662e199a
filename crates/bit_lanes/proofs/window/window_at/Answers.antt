use Rattle.std.proofs.Common.{◌≡◌, ◌+◌, get_or, sym, ◌∙◌, arith}
use Rattle.std.proofs.lemmas.List.{get_or_past}
use Rattle.bit_lanes.proofs.Laid.{two_bytes}
use Rattle.bit_lanes.proofs.window.window_at.Goals.{then-at-from, else-at-from}
use Rattle.bit_lanes.proofs.window.window_at.Goals as goal

pub returns : goal.returns
returns c j h =
    let low : c.if-at-from.low ≡ get_or c.args.from.now (c.args.at + 1) 0 = elim c.if-at-from.branch [ then-at-from w ↦ w.low-is | else-at-from w ↦ w.low-is ∙ sym (get_or_past c.args.from.now (c.args.at + 1) 0 (omega (arith, w.if-at-from))) ] in
    c.window.ensures j h ∙ two_bytes c.args.from.now c.args.at c.if-at-from.low c.args.shift j low c.requires.shift h
