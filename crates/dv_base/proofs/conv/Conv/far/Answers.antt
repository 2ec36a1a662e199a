use Rattle.std.proofs.Common.{◌≡◌, ◌-ℤ◌, ◌+ℤ◌, ◌∙◌, ℤ, subst, FitsSigned, w64, rules, arith}
use Rattle.std.proofs.lemmas.Int.{ints, to_z-of_z, fits_signed_from_abs}
use Rattle.dv_base.specs.Brought.{brought}
use Rattle.dv_base.proofs.conv.Conv.far.Goals as goal

pub clamp-requires : goal.clamp-requires
clamp-requires c = let small = c.round-exact.ensures.bound in omega (arith, ints, small)

pub returns : goal.returns
unfolding brought
returns c =
    let small = c.round-exact.ensures.bound in
    let exact : FitsSigned w64 c.round-exact.result = search rules in
    let drift : FitsSigned w64 c.args.drift = search rules in
    let n : FitsSigned w64 c.args.n = search rules in
    let x : FitsSigned w64 c.args.x = search rules in
    let low : FitsSigned w64 (c.round-exact.result -ℤ c.args.drift) = fits_signed_from_abs w64 (c.round-exact.result -ℤ c.args.drift) (omega (arith, ints, small)) in
    let high : FitsSigned w64 (c.round-exact.result +ℤ c.args.drift) = fits_signed_from_abs w64 (c.round-exact.result +ℤ c.args.drift) (omega (arith, ints, small)) in
    let result : FitsSigned w64 c.clamp.result = search rules in
    to_z-of_z w64 c.clamp.result result ∙ subst (λ (t : ℤ). c.clamp.result ≡ brought t c.args.drift c.args.n) (simp to_z-of_z at c.round-exact.ensures.value) (simp to_z-of_z at c.clamp.ensures.value)
