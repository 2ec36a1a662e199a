-- The quotient that rounds the length is among the pixels that are near enough, or the next to them.
use Rattle.std.proofs.Common.{◌≡◌, ◌+◌, ◌*◌, ◌/◌, ◌+ℤ◌, ◌-ℤ◌, ◌∙◌, pos, to_z, of_z, w64, arith}
use Rattle.std.specs.Prelude.{unsigned_abs}
use Rattle.std.specs.Int.{int_max}
use Rattle.std.proofs.lemmas.Int.{ints, clamps}
use Rattle.dv_base.specs.Rounding.{half_up}
use Rattle.dv_base.proofs.Nearness.{by_way, way_bound}
use Rattle.dv_base.proofs.conv.Conv.near_size.Goals as goal

pub returns-clause-value : goal.returns-clause-value
returns-clause-value c =
    let q : half_up c.args.self.now c.args.length ≡ (c.from.result * c.from-2.result + c.from-3.result) / (2 * c.self.inside.bottom) = rw (← c.self.view_is, c.from.ensures, c.from-2.ensures, c.from-3.ensures) in
    let least : c.unsigned_abs.result ≡ unsigned_abs (int_max (c.args.n -ℤ c.args.drift) (pos 0)) = omega (arith, ints, clamps) in
    let most : c.unsigned_abs-2.result ≡ unsigned_abs (c.args.n +ℤ c.args.drift) = omega (arith, ints) in
    let way = c.in_ok-way.way in
    let small = way_bound _ _ _ way c.in_ok-way.ensures in
    let sum : to_z w64 (of_z w64 (to_z w64 (of_z w64 c.args.n) +ℤ to_z w64 (of_z w64 way))) ≡ c.args.n +ℤ way = omega (arith, ints, small) in
    sum ∙ rw q (by_way c.args.n c.args.drift way _ _ _ c.requires.least (omega (arith, ints)) least most c.in_ok-way.ensures)

pub returns-clause-bound : goal.returns-clause-bound
returns-clause-bound c =
    let small = way_bound _ _ _ c.in_ok-way.way c.in_ok-way.ensures in
    omega (arith, ints, small)
