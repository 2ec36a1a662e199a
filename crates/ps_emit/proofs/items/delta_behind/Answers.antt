use Rattle.std.proofs.Common.{rules, w64}
use Rattle.std.specs.Prelude.{FitsSigned, ◌-ℤ◌}
use Rattle.std.proofs.lemmas.Int.{to_z-of_z}
use Rattle.ps_emit.proofs.Ways.{same_yes}
use Rattle.ps_emit.proofs.items.delta_behind.Goals as goal

pub returns-then-y-next-clause-value : goal.returns-then-y-next-clause-value
returns-then-y-next-clause-value c =
    let a : FitsSigned w64 c.args.delta = search rules in
    let b : FitsSigned w64 c.args.next.0 = search rules in
    let x : FitsSigned w64 c.args.x = search rules in
    let d : FitsSigned w64 (c.args.next.0 -ℤ c.args.x) = search rules in
    let r : FitsSigned w64 c.kept_way.result = search rules in
    rw (same_yes c.args.y c.args.next.1 (search rules), to_z-of_z w64 c.kept_way.result r)
    (rw (to_z-of_z w64 c.args.delta a, to_z-of_z w64 c.args.next.0 b, to_z-of_z w64 c.args.x x, to_z-of_z w64 (c.args.next.0 -ℤ c.args.x) d) at c.kept_way.ensures.value)
