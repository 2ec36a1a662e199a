use Rattle.std.proofs.Common.{◌≡◌, ◌+◌, ◌*◌, ◌/◌, ◌%◌, length, ap, ◌∙◌, arith}
use Rattle.std.proofs.lemmas.Slice.{between_to_end}
use Rattle.bit_lanes.specs.Bits.{bits, bit}
use Rattle.bit_lanes.specs.BitLaws.{bit-drop}
use Rattle.bit_lanes.specs.Rows.{row_of}
use Rattle.bit_lanes.proofs.Cleared.{row_is}
use Rattle.bit_lanes.proofs.align.align_row.Goals as goal

pub returns : goal.returns
returns c =
    let from = c.args.from.now in
    let n = c.args.start / 8 in
    let whole : length c.clear_behind.new.to ≡ length c.args.to.now = omega (arith, c.lay_all_lanes-done.ensures.len, c.lay_rest.ensures.len, c.clear_behind.ensures.len) in
    row_is from c.clear_behind.new.to c.args.start c.args.width c.requires.held (omega (arith, whole, c.requires.room))
    (λ i h.
    c.clear_behind.ensures.front i h
    ∙ c.lay_rest.ensures.shown i (omega (arith, h))
    ∙ ap (λ xs. bit xs (c.args.start % 8 + i)) (between_to_end from n (length from) (omega arith))
    ∙ bit-drop n from (c.args.start % 8 + i)
    ∙ ap (bit from) (omega arith))
    (λ i h. c.clear_behind.ensures.behind i h)
    ∙ ap (λ k. row_of c.args.start c.args.width (8 * k) (bits from)) whole
