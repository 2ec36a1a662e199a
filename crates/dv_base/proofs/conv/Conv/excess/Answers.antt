-- An excess that is small is told.
use Rattle.std.proofs.Common.{◌≡◌, ◌<◌, ◌^◌, ◌-ℤ◌, inl, refl, to_z, of_z, w64, arith}
use Rattle.std.specs.Prelude.{unsigned_abs}
use Rattle.std.proofs.lemmas.Int.{ints}
use Rattle.dv_base.specs.Excess.{excess}
use Rattle.dv_base.proofs.conv.Conv.excess.Goals as goal

pub returns-then-unsigned_abs : goal.returns-then-unsigned_abs
returns-then-unsigned_abs c =
    let pixels : to_z w64 (of_z w64 c.args.n) ≡ c.args.n = omega (arith, ints, c.requires.n) in
    let units : to_z w64 (of_z w64 c.args.x) ≡ c.args.x = omega (arith, ints, c.requires.x) in
    let exact : excess c.args.self.now c.args.x c.args.n ≡ c.product.result -ℤ c.product-2.result = rw (← c.self.view_is, c.product.ensures.value, c.product-2.ensures.value, pixels, units) refl in
    let small : unsigned_abs (c.product.result -ℤ c.product-2.result) < 2 ^ 60 = omega (arith, ints) in
    rw exact (inl (small, omega (arith, ints, small, c.product.ensures.bound, c.product-2.ensures.bound)))
