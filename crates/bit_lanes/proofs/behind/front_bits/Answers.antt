use Rattle.std.proofs.Common.{◌∙◌, ◌-◌, ◌^◌, ap, arith, bit_and}
use Rattle.std.specs.Int.{bit_at}
use Rattle.std.proofs.lemmas.Nat.Bits.{bit_at_and, ones_shl, bit_at_mask_inside, bit_at_mask_below, bit_at-lt}
use Rattle.bit_lanes.proofs.behind.front_bits.Goals as goal

pub returns-clause-front : goal.returns-clause-front
returns-clause-front c j h =
    let k = 8 - c.args.count in
    let m = ap (λ n. bit_at (bit_and c.args.byte n) (7 - j)) (ones_shl 8 k (omega arith)) ∙ bit_at_and c.args.byte (2 ^ 8 - 2 ^ k) (7 - j) in
    let one = bit_at_mask_inside k 8 (7 - j) (omega (arith, h)) (omega arith) in
    let s = bit_at-lt c.args.byte (7 - j) in
    omega (arith, m, one, s)

pub returns-clause-behind : goal.returns-clause-behind
returns-clause-behind c j h l =
    let k = 8 - c.args.count in
    let m = ap (λ n. bit_at (bit_and c.args.byte n) (7 - j)) (ones_shl 8 k (omega arith)) ∙ bit_at_and c.args.byte (2 ^ 8 - 2 ^ k) (7 - j) in
    let none = bit_at_mask_below k 8 (7 - j) (omega (arith, h, l)) in
    omega (arith, m, none)
