-- What is told of a place is told of its numbers.
use Rattle.std.proofs.Common.{◌≡◌, FitsSigned, w64, to_z, of_z, arith, rules}
use Rattle.std.proofs.lemmas.Int.{ints, to_z-of_z}
use Rattle.vf_expand.proofs.grid.Grid.excess.Goals as goal

pub returns : goal.returns
returns c =
    let fits : FitsSigned w64 c.excess.result = search rules in
    let p = c.here.inside in
    let h : to_z w64 (of_z w64 p.h) ≡ p.h = omega (arith, ints, c.here.invariant.h) in
    let hh : to_z w64 (of_z w64 p.hh) ≡ p.hh = omega (arith, ints, c.here.invariant.hh) in
    let told = rw (h, hh) at c.excess.ensures in
    rw (to_z-of_z w64 c.excess.result fits, ← c.self.view_is, ← c.here.view_is) told
