use Rattle.std.proofs.Common.{◌≡◌, ◌+◌, ◌-◌, not, nat_eq, ap, sym, ◌∙◌, arith, w8, take, drop}
use Rattle.std.specs.Simd.Lanes.{chunk}
use Rattle.std.proofs.lemmas.Simd.{length-chunk, bitmask_splat}
use Rattle.bit_lanes.specs.Bits.{all_zero}
use Rattle.bit_lanes.proofs.Blanks.{mask_zero}
use Rattle.bit_lanes.proofs.blank.are_blank_lanes.Goals as goal

pub returns : goal.returns
returns c =
    let v = chunk c.args.at 16 c.args.bytes.now in
    let e : c.args.at + 16 - c.args.at ≡ 16 = omega arith in
    ap (λ m. nat_eq m 0) (bitmask_splat w8 (λ a b. not (nat_eq a b)) v 16 0 (length-chunk c.args.at 16 c.args.bytes.now c.requires) (omega arith))
    ∙ mask_zero v
    ∙ sym (ap (λ n. all_zero (take n (drop c.args.at c.args.bytes.now))) e)
