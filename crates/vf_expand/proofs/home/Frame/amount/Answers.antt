use Rattle.std.proofs.Common.{◌≡◌, arith, ℤ, FitsSigned, w32, w64, to_z, of_z}
use Rattle.std.proofs.lemmas.Int.{ints, to_z-of_z, fits_signed_from_abs}
use Rattle.dv_base.specs.Scale.{scaled}
use Rattle.vf_expand.proofs.Amounts.{amount_small}
use Rattle.vf_expand.proofs.home.Frame.amount.Goals as goal

same_amount : (z : ℤ) → FitsSigned w32 z → to_z w64 (of_z w64 (to_z w32 (of_z w32 z))) ≡ z
same_amount z f = omega (arith, ints)

pub returns-in-Page-clause-value : goal.returns-in-Page-clause-value
returns-in-Page-clause-value c = rw c.in-Page.is (same_amount c.args.q c.ranges.q)

pub returns-in-Packet-clause-bound : goal.returns-in-Packet-clause-bound
returns-in-Packet-clause-bound c =
    let value = rw (to_z-of_z w32 c.args.q c.ranges.q) at c.scale.ensures.value in
    let small = amount_small c.size.result c.args.q c.size.ensures.bound c.ranges.q in
    let fits : FitsSigned w64 (scaled c.size.result c.args.q) = fits_signed_from_abs w64 (scaled c.size.result c.args.q) (omega (arith, small)) in
    rw (value, to_z-of_z w64 (scaled c.size.result c.args.q) fits) small
