use Rattle.std.proofs.Common.{◌∙◌, ap, FitsSigned, w64, rules}
use Rattle.std.proofs.lemmas.Int.{to_z-of_z}
use Rattle.positions.specs.Drift.{pixels_behind, pixels_after}
use Rattle.positions.proofs.pos.pixels_after.Goals as goal

pub returns-then-large-clause-value : goal.returns-then-large-clause-value
unfolding pixels_after
returns-then-large-clause-value c =
    let place : FitsSigned w64 c.args.place = search rules in
    let result : FitsSigned w64 c.round.result = search rules in
    let rounding = simp to_z-of_z at c.round.ensures.value in
    rw c.if-large.true (to_z-of_z w64 c.round.result result ∙ rounding)

pub returns-else-large-clause-value : goal.returns-else-large-clause-value
unfolding pixels_after
returns-else-large-clause-value c =
    let drift : FitsSigned w64 c.args.drift = search rules in
    let place : FitsSigned w64 c.args.place = search rules in
    let pixels : FitsSigned w64 c.args.pixels = search rules in
    let q : FitsSigned w64 c.args.q = search rules in
    let width : FitsSigned w64 c.round-else-large.result = search rules in
    let result : FitsSigned w64 c.pixels_behind.result = search rules in
    let rounding = simp to_z-of_z at c.round-else-large.ensures.value in
    let drifting = simp to_z-of_z at c.pixels_behind.ensures.value in
    rw c.if-large.false (to_z-of_z w64 c.pixels_behind.result result ∙ drifting ∙ ap (pixels_behind c.args.conv.now c.args.drift c.args.place c.args.pixels) rounding)
