use Rattle.std.proofs.Common.{rules, w64}
use Rattle.std.specs.Prelude.{FitsSigned, ◌-ℤ◌}
use Rattle.std.proofs.lemmas.Int.{to_z-of_z}
use Rattle.ps_emit.proofs.Ways.{in_row}
use Rattle.ps_emit.proofs.items.end.Goals as goal

pub returns-then-y-to-clause-value : goal.returns-then-y-to-clause-value
returns-then-y-to-clause-value c =
    let a : FitsSigned w64 c.args.delta = search rules in
    let b : FitsSigned w64 c.in-Some.to.0 = search rules in
    let x : FitsSigned w64 c.args.x = search rules in
    let d : FitsSigned w64 (c.in-Some.to.0 -ℤ c.args.x) = search rules in
    rw (c.in-Some.is, in_row c.args.delta c.args.x c.args.y c.in-Some.to.0 c.in-Some.to.1 (search rules))
    (rw (to_z-of_z w64 c.args.delta a, to_z-of_z w64 c.in-Some.to.0 b, to_z-of_z w64 c.args.x x, to_z-of_z w64 (c.in-Some.to.0 -ℤ c.args.x) d) at c.row_way.ensures.value)
