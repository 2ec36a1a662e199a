use Rattle.std.proofs.Common.{◌∙◌, ap, FitsSigned, w64, rules}
use Rattle.std.proofs.lemmas.Int.{to_z-of_z}
use Rattle.positions.specs.Drift.{pixels_after}
use Rattle.positions.proofs.Moves.{on_err, down-some, down-none}
use Rattle.positions.proofs.pos.Pos.down.Goals as goal

pub returns-in_err-v-clause-passed : goal.returns-in_err-v-clause-passed
returns-in_err-v-clause-passed c =
    let place : FitsSigned w64 c.self.inside.v = search rules in
    let by : FitsSigned w64 c.args.q = search rules in
    let passed = simp to_z-of_z at c.in_err-v.ensures.passed in
    rw (← c.self.view_is) (on_err c.from_residual.result (down-none c.args.conv.now c.args.drift c.args.space _ c.args.q passed))

pub returns-clause-ok : goal.returns-clause-ok
returns-clause-ok c =
    let place : FitsSigned w64 c.self.inside.v = search rules in
    let pixels : FitsSigned w64 c.self.inside.vv = search rules in
    let by : FitsSigned w64 c.args.q = search rules in
    let drift : FitsSigned w64 c.args.drift = search rules in
    let space : FitsSigned w64 c.args.space = search rules in
    let there : FitsSigned w64 c.in_ok-v.v = search rules in
    let result : FitsSigned w64 c.pixels_after-self-inside.result = search rules in
    let sum = simp to_z-of_z at c.in_ok-v.ensures.ok.0 in
    let large = simp to_z-of_z at c.is_large_down.ensures in
    let across = simp to_z-of_z at c.pixels_after-self-inside.ensures.value in
    rw (← c.self.view_is, to_z-of_z w64 c.in_ok-v.v there, to_z-of_z w64 c.pixels_after-self-inside.result result) (down-some c.args.conv.now c.args.drift c.args.space _ c.args.q _ _ sum c.in_ok-v.ensures.ok.1 (across ∙ ap (λ kind. pixels_after c.args.conv.now c.args.drift kind c.in_ok-v.v c.self.inside.vv c.args.q) large))
