use Rattle.std.proofs.Common.{◌≡◌, ◌+◌, suc, pos, get_or, FitsSigned, w32, arith, rules}
use Rattle.dvi_ops.proofs.Operands.{all_more}
use Rattle.dvicopy_out.proofs.copying.counts_fit.Goals as goal

pub loop-count-preserved : goal.loop-count-preserved
loop-count-preserved c =
    let ws = c.args.counts.now in
    let i = c.loop-count.count-index in
    let fits : FitsSigned w32 (get_or ws i (pos 0)) = search rules in
    let one : i + 1 ≡ suc i = omega arith in
    record { words = all_more ws i (i + 1) one c.loop-count-test.true c.loop-count.invariant.words fits }
