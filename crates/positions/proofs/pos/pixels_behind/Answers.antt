-- The pixels are brought near the exact ones.
use Rattle.std.proofs.Common.{◌≡◌, ◌+ℤ◌, ◌<◌, ◌^◌, ◌∙◌, FitsSigned, w64, rules, to_z, of_z}
use Rattle.std.proofs.lemmas.Int.{to_z-of_z}
use Rattle.dv_base.specs.Brought.{brought}
use Rattle.dv_base.specs.Rounding.{rounded}
use Rattle.positions.specs.Drift.{near, pixels_behind}
use Rattle.positions.proofs.Moves.{brought-bound}
use Rattle.positions.proofs.pos.pixels_behind.Goals as goal

value : (c : goal.After-near) → c.near.result ≡ brought (rounded c.args.conv.now c.args.place) c.args.drift (c.args.pixels +ℤ c.args.width)
value c =
    let drift : FitsSigned w64 c.args.drift = search rules in
    let place : FitsSigned w64 c.args.place = search rules in
    let pixels : FitsSigned w64 c.args.pixels = search rules in
    let width : FitsSigned w64 c.args.width = search rules in
    let sum : FitsSigned w64 (c.args.pixels +ℤ c.args.width) = search rules in
    simp to_z-of_z at c.near.ensures.value

pub returns-clause-value : goal.returns-clause-value
unfolding pixels_behind near brought
returns-clause-value c =
    let result : FitsSigned w64 c.near.result = search rules in
    to_z-of_z w64 c.near.result result ∙ value c

pub returns-clause-bound : goal.returns-clause-bound
returns-clause-bound c =
    let result : FitsSigned w64 c.near.result = search rules in
    rw (to_z-of_z w64 c.near.result result)
    (brought-bound c.args.conv.now c.near.ensures.fine c.args.drift c.args.place (c.args.pixels +ℤ c.args.width) c.near.result c.requires.drift.0 c.requires.drift.1 c.requires.place (value c))
