use Rattle.std.proofs.Common.{◌+◌, ◌<◌, ◌≤◌, length, ◌/◌, ◌%◌, inl, inr, ◌∙◌, arith}
use Rattle.std.proofs.lemmas.Bool.{cases_lt}
use Rattle.pk_raster.proofs.Places.{painted, kept}
use Rattle.pk_raster.proofs.Lists.{whole}
use Rattle.pk_raster.proofs.bits.blacken.Goals as goal

pub loop-at-preserved : goal.loop-at-preserved
loop-at-preserved c =
    let row = c.loop-at.row in
    let at = c.loop-at.at in
    let n = c.min-count.result in
    let within : at / 8 < length row = omega arith in
    let fit : at % 8 + n ≤ 8 = omega arith in
    let p = painted row at n c.with_ones.result within fit c.with_ones.ensures.ones in
    let k = kept row at n c.with_ones.result within fit c.with_ones.ensures.before c.with_ones.ensures.behind in
    let old = c.loop-at.invariant in
    record {
      from = omega arith;
      to = omega arith;
      black = λ i h l. elim (cases_lt i at) [ inl lt ↦ k i (inl lt) ∙ old.black i h lt | inr ge ↦ p i ge l ];
      before = λ i h. k i (inl (omega (arith, old.from, h))) ∙ old.before i h;
      behind = λ i h. k i (inr h) ∙ old.behind i (omega (arith, h));
    }

pub returns : goal.returns
returns c =
    let old = c.loop-at.invariant in
    whole c.args.row.now c.loop-at.row c.args.start c.args.end c.loop-at.auto.row c.requires.order c.requires.inside
    (λ i h k. old.black i h (omega (arith, k))) old.before (λ i h. old.behind i (omega (arith, old.to, h)))
