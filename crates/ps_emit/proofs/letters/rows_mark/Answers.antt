use Rattle.std.proofs.Common.{◌≡◌, [], sym, ap, ◌∙◌, arith, rules, take, drop}
use Rattle.ps_subset.specs.MaskEffects.{rows_mark}
use Rattle.ps_emit.proofs.Blank.{empty_is, no_columns, no_bytes, row_white, row_black}
use Rattle.ps_emit.proofs.letters.rows_mark.Goals as goal

pub returns-then-columns-eq0 : goal.returns-then-columns-eq0
returns-then-columns-eq0 c = sym (ap (λ n. rows_mark n c.args.rows c.args.bytes.now) c.if-columns-eq0.true ∙ no_columns c.args.rows c.args.bytes.now)

pub returns-then-row_marks : goal.returns-then-row_marks
returns-then-row_marks c =
    let front = c.split_at.ensures.front ∙ ap (λ n. take n c.loop-left.rest.now) c.min.ensures in
    sym (c.loop-left.invariant.rest ∙ row_black c.args.columns c.loop-left.left _ c.loop-left.rest.now c.split_at.result.0.now (omega (arith, c.loop-left-test.true)) c.loop-left.invariant.wide front (sym c.row_marks.ensures ∙ c.if-row_marks.true))

pub loop-left-preserved : goal.loop-left-preserved
loop-left-preserved c =
    let front = c.split_at.ensures.front ∙ ap (λ n. take n c.loop-left.rest.now) c.min.ensures in
    let back = c.split_at.ensures.back ∙ ap (λ n. drop n c.loop-left.rest.now) c.min.ensures in
    record {
      wide = c.loop-left.invariant.wide;
      rest = c.loop-left.invariant.rest ∙ row_white c.args.columns c.loop-left.left _ c.loop-left.rest.now c.split_at.result.0.now c.split_at.result.1.now (omega (arith, c.loop-left-test.true)) c.loop-left.invariant.wide front back
          (sym c.row_marks.ensures ∙ c.if-row_marks.false);
    }

pub returns-else-not-is_empty : goal.returns-else-not-is_empty
returns-else-not-is_empty c =
    let none : c.loop-left.rest.now ≡ [] = empty_is c.loop-left.rest.now (search rules) in
    sym (c.loop-left.invariant.rest ∙ ap (λ xs. rows_mark c.args.columns c.loop-left.left xs) none ∙ no_bytes c.args.columns c.loop-left.left)
