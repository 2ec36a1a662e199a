use Rattle.std.proofs.Common.{◌≡◌, ◌+◌, ℕ, List, Fits, w8, get_or, length, sym, ap, ◌∙◌, arith, rules}
use Rattle.std.proofs.lemmas.Slice.{between_to_end}
use Rattle.bit_lanes.specs.Bits.{bits, all_zero}
use Rattle.bit_lanes.proofs.Blanks.{zero_on, zero_ends, bits_zero}
use Rattle.bit_lanes.proofs.blank.is_blank.Goals as goal

of_bits : (bs : List ℕ) → ((k : ℕ) → Fits w8 (get_or bs k 0)) → all_zero (bits bs) ≡ all_zero bs
of_bits bs h = bits_zero bs (λ k. (h k).fits)

pub returns-then-not-are_blank_lanes-clause-of_bytes : goal.returns-then-not-are_blank_lanes-clause-of_bytes
returns-then-not-are_blank_lanes-clause-of_bytes c =
    sym (zero_ends c.args.bytes.now c.loop-at.at (c.loop-at.at + 16) (omega arith) c.loop-at.invariant.rest (sym c.are_blank_lanes.ensures ∙ search rules))

pub returns-then-not-are_blank_lanes-clause-of_bits : goal.returns-then-not-are_blank_lanes-clause-of_bits
returns-then-not-are_blank_lanes-clause-of_bits c =
    sym (of_bits c.args.bytes.now c.type_inv.bytes ∙ zero_ends c.args.bytes.now c.loop-at.at (c.loop-at.at + 16) (omega arith) c.loop-at.invariant.rest (sym c.are_blank_lanes.ensures ∙ search rules))

pub loop-at-preserved : goal.loop-at-preserved
loop-at-preserved c = record {
  most = omega arith;
  rest = zero_on c.args.bytes.now c.loop-at.at (c.loop-at.at + 16) (omega arith) c.loop-at.invariant.rest (sym c.are_blank_lanes.ensures ∙ search rules);
}

pub returns-clause-of_bytes : goal.returns-clause-of_bytes
returns-clause-of_bytes c =
    c.are_blank_bytes.ensures ∙ ap all_zero (between_to_end c.args.bytes.now c.loop-at.at (length c.args.bytes.now) (omega arith)) ∙ sym c.loop-at.invariant.rest

pub returns-clause-of_bits : goal.returns-clause-of_bits
returns-clause-of_bits c =
    c.are_blank_bytes.ensures ∙ ap all_zero (between_to_end c.args.bytes.now c.loop-at.at (length c.args.bytes.now) (omega arith)) ∙ sym c.loop-at.invariant.rest ∙ sym (of_bits c.args.bytes.now c.type_inv.bytes)
