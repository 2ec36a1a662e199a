-- A negative length is rounded as its size, and the pixels are turned with it.
use Rattle.std.proofs.Common.{◌≡◌, ◌-ℤ◌, ◌∙◌, pos, arith, refl, subst, to_z, of_z, w64}
use Rattle.std.specs.Prelude.{unsigned_abs}
use Rattle.std.proofs.lemmas.Int.{ints, to_z-of_z}
use Rattle.dv_base.specs.Rounding.{IsFine}
use Rattle.dv_base.proofs.Nearness.{below, above}
use Rattle.dv_base.proofs.conv.Conv.near.Goals as goal

pub overflow_sub-result : goal.overflow_sub-result
overflow_sub-result c = let small = c.in-Some.ensures.bound in omega (arith, ints, small)

pub returns-in-Some-clause-value : goal.returns-in-Some-clause-value
returns-in-Some-clause-value c =
    let p = c.in-Some.pixels in
    let small = c.in-Some.ensures.bound in
    let size : c.unsigned_abs-size.result ≡ unsigned_abs c.args.x = grind (arith, refl, subst, to_z-of_z) in
    let turned : to_z w64 (of_z w64 (pos 0 -ℤ to_z w64 (of_z w64 c.args.n))) ≡ pos 0 -ℤ c.args.n = omega (arith, ints) in
    let drift : to_z w64 (of_z w64 c.args.drift) ≡ c.args.drift = omega (arith, ints) in
    let back : to_z w64 (of_z w64 (pos 0 -ℤ to_z w64 (of_z w64 p))) ≡ pos 0 -ℤ p = omega (arith, ints, small) in
    back ∙ below c.args.self.now c.args.x c.args.n (pos 0 -ℤ c.args.n) c.args.drift p c.unsigned_abs-size.result c.requires.least size (omega (arith, ints)) refl (rw (turned, drift) at c.in-Some.ensures.value)

pub returns-in-Some-clause-fine : goal.returns-in-Some-clause-fine
returns-in-Some-clause-fine c = subst IsFine c.self.view_is c.self.invariant.fine

pub returns-in-None-clause-fine : goal.returns-in-None-clause-fine
returns-in-None-clause-fine c = subst IsFine c.self.view_is c.self.invariant.fine

pub returns-in-Some-near_size-clause-value : goal.returns-in-Some-near_size-clause-value
returns-in-Some-near_size-clause-value c =
    let p = c.in-Some-near_size.pixels in
    let small = c.in-Some-near_size.ensures.bound in
    let size : c.unsigned_abs-size.result ≡ unsigned_abs c.args.x = grind (arith, refl, subst, to_z-of_z) in
    let same : to_z w64 (of_z w64 c.args.n) ≡ c.args.n = omega (arith, ints) in
    let drift : to_z w64 (of_z w64 c.args.drift) ≡ c.args.drift = omega (arith, ints) in
    let back : to_z w64 (of_z w64 p) ≡ p = omega (arith, ints, small) in
    back ∙ above c.args.self.now c.args.x c.args.n c.args.drift p c.unsigned_abs-size.result size (omega (arith, ints)) (rw (same, drift) at c.in-Some-near_size.ensures.value)

pub returns-in-Some-near_size-clause-fine : goal.returns-in-Some-near_size-clause-fine
returns-in-Some-near_size-clause-fine c = subst IsFine c.self.view_is c.self.invariant.fine

pub returns-in-None-near_size-clause-fine : goal.returns-in-None-near_size-clause-fine
returns-in-None-near_size-clause-fine c = subst IsFine c.self.view_is c.self.invariant.fine
