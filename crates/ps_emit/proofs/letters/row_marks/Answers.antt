use Rattle.std.proofs.Common.{◌≡◌, ◌/◌, ◌%◌, true, false, not, take, drop, sym, ap, ◌∙◌, rules}
use Rattle.std.specs.Prelude.{◌||◌}
use Rattle.bit_lanes.specs.Bits.{all_zero}
use Rattle.ps_subset.specs.MaskEffects.{row_marks}
use Rattle.ps_emit.proofs.Blank.{take_least, drop_least, marks_parted}
use Rattle.ps_emit.proofs.letters.row_marks.Goals as goal

pub returns-then-not-is_blank : goal.returns-then-not-is_blank
returns-then-not-is_blank c =
    let w = c.args.columns in
    let row = c.args.row.now in
    let front = c.split_at.ensures.front ∙ ap (λ n. take n row) c.min.ensures ∙ take_least (w / 8) row in
    let marked : c.is_blank.result ≡ false = search rules in
    let some : not (all_zero (take (w / 8) row)) ≡ true = ap not (sym (c.is_blank.ensures.of_bytes ∙ ap all_zero front) ∙ marked) in
    ap not marked ∙ sym (marks_parted w row (λ k. (c.type_inv.row k).fits) ∙ ap (λ t. t || row_marks (w % 8) (drop (w / 8) row)) some)

pub returns-else-not-is_blank : goal.returns-else-not-is_blank
returns-else-not-is_blank c =
    let w = c.args.columns in
    let row = c.args.row.now in
    let front = c.split_at.ensures.front ∙ ap (λ n. take n row) c.min.ensures ∙ take_least (w / 8) row in
    let back = c.split_at.ensures.back ∙ ap (λ n. drop n row) c.min.ensures ∙ drop_least (w / 8) row in
    let white : c.is_blank.result ≡ true = search rules in
    let none : not (all_zero (take (w / 8) row)) ≡ false = ap not (sym (c.is_blank.ensures.of_bytes ∙ ap all_zero front) ∙ white) in
    c.front_marks.ensures ∙ ap (row_marks (w % 8)) back ∙ sym (marks_parted w row (λ k. (c.type_inv.row k).fits) ∙ ap (λ t. t || row_marks (w % 8) (drop (w / 8) row)) none)
