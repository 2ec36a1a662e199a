use Rattle.std.proofs.Common.{◌∙◌, ap, FitsSigned, w64, rules}
use Rattle.std.proofs.lemmas.Int.{to_z-of_z}
use Rattle.positions.specs.Drift.{pixels_after}
use Rattle.positions.proofs.Moves.{on_err, right-some, right-none}
use Rattle.positions.proofs.pos.Pos.right.Goals as goal

pub returns-in_err-h-clause-passed : goal.returns-in_err-h-clause-passed
returns-in_err-h-clause-passed c =
    let place : FitsSigned w64 c.self.inside.h = search rules in
    let by : FitsSigned w64 c.args.q = search rules in
    let passed = simp to_z-of_z at c.in_err-h.ensures.passed in
    rw (← c.self.view_is) (on_err c.from_residual.result (right-none c.args.conv.now c.args.drift c.args.space _ c.args.q passed))

pub returns-clause-ok : goal.returns-clause-ok
returns-clause-ok c =
    let place : FitsSigned w64 c.self.inside.h = search rules in
    let pixels : FitsSigned w64 c.self.inside.hh = search rules in
    let by : FitsSigned w64 c.args.q = search rules in
    let drift : FitsSigned w64 c.args.drift = search rules in
    let space : FitsSigned w64 c.args.space = search rules in
    let there : FitsSigned w64 c.in_ok-h.h = search rules in
    let result : FitsSigned w64 c.pixels_after-self-inside.result = search rules in
    let sum = simp to_z-of_z at c.in_ok-h.ensures.ok.0 in
    let large = simp to_z-of_z at c.is_large_across.ensures in
    let across = simp to_z-of_z at c.pixels_after-self-inside.ensures.value in
    rw (← c.self.view_is, to_z-of_z w64 c.in_ok-h.h there, to_z-of_z w64 c.pixels_after-self-inside.result result) (right-some c.args.conv.now c.args.drift c.args.space _ c.args.q _ _ sum c.in_ok-h.ensures.ok.1 (across ∙ ap (λ kind. pixels_after c.args.conv.now c.args.drift kind c.in_ok-h.h c.self.inside.hh c.args.q) large))
