use Rattle.std.proofs.Common.{◌≡◌, ◌<◌, arith, get_or, length, pos, rules, w32, to_z, of_z}
use Rattle.dvitype_list.proofs.Texting.{counts_step}
use Rattle.dvitype_list.proofs.lines.more_counts.Goals as goal

pub loop-count-preserved : goal.loop-count-preserved
loop-count-preserved c =
    let l : c.loop-count.count-index < length c.args.counts.now = omega arith in
    let same : to_z w32 (of_z w32 (get_or c.args.counts.now c.loop-count.count-index (pos 0))) ≡ get_or c.args.counts.now c.loop-count.count-index (pos 0) = search rules in
    record {
      value = counts_step c.args.line.now _ _ _ c.args.counts.now c.loop-count.count-index (pos 0) l c.loop-count.invariant.value c.text.ensures.value (rw same at c.number.ensures.value);
      len = omega (arith, c.loop-count.invariant.len, c.text.ensures.len, c.number.ensures.len);
    }
