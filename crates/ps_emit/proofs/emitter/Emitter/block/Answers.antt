use Rattle.ps_subset.specs.Prolog.{line}
use Rattle.ps_emit.specs.Written.{cut_writes, cut_longer, cut_later, then_writes}
use Rattle.ps_emit.proofs.emitter.Emitter.block.Goals as goal

pub returns-in_err-put_line-clause-writes : goal.returns-in_err-put_line-clause-writes
returns-in_err-put_line-clause-writes g c =
    cut_writes _ _ _ _ c.from_residual.ensures.0
    (cut_longer _ (line c.args.bytes.now) _ _ (rw (c.announced.ensures.value, c.clear.ensures) at c.in_err-put_line.ensures.writes))

pub returns-in_err-put-clause-writes : goal.returns-in_err-put-clause-writes
returns-in_err-put-clause-writes g c =
    cut_writes _ _ _ _ c.from_residual-in_err-put.ensures.0
    (cut_later _ (line c.args.bytes.now) _ _ _ (rw (c.announced.ensures.value, c.clear.ensures) at c.in_ok-put_line.ensures.writes) (cut_longer _ _ _ _ c.in_err-put.ensures.writes))

pub returns-clause-writes : goal.returns-clause-writes
returns-clause-writes g c =
    then_writes _ (line c.args.bytes.now) _ _ _ _ (rw (c.announced.ensures.value, c.clear.ensures) at c.in_ok-put_line.ensures.writes)
    (then_writes _ _ _ _ _ _ c.in_ok-put.ensures.writes c.put-2.ensures.writes)
