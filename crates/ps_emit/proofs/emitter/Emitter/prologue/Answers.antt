use Rattle.ps_emit.specs.Written.{cut_writes, cut_longer, cut_later, then_writes}
use Rattle.ps_emit.proofs.emitter.Emitter.prologue.Goals as goal

pub returns-in_err-put-clause-writes : goal.returns-in_err-put-clause-writes
returns-in_err-put-clause-writes g c =
    cut_writes _ _ _ _ c.from_residual-in_err-put.ensures.0
    (cut_later _ _ _ _ _ (rw c.head.ensures at c.in_ok-put_line.ensures.writes) (cut_longer _ _ _ _ c.in_err-put.ensures.writes))

pub returns-in_err-blocks-clause-writes : goal.returns-in_err-blocks-clause-writes
returns-in_err-blocks-clause-writes g c =
    cut_writes _ _ _ _ c.from_residual-in_err-blocks.ensures.0
    (cut_later _ _ _ _ _ (rw c.head.ensures at c.in_ok-put_line.ensures.writes)
    (cut_later _ _ _ _ _ c.in_ok-put.ensures.writes (cut_longer _ _ _ _ c.in_err-blocks.ensures.writes)))

pub returns-clause-writes : goal.returns-clause-writes
returns-clause-writes g c =
    then_writes _ _ _ _ _ _ (rw c.head.ensures at c.in_ok-put_line.ensures.writes)
    (then_writes _ _ _ _ _ _ c.in_ok-put.ensures.writes
    (then_writes _ _ _ _ _ _ c.in_ok-blocks.ensures.writes (rw c.job.ensures at c.put_line-2.ensures.writes)))

pub returns-in_err-put_line-clause-writes : goal.returns-in_err-put_line-clause-writes
returns-in_err-put_line-clause-writes g c =
    cut_writes _ _ _ _ c.from_residual.ensures.0 (cut_longer _ _ _ _ (rw c.head.ensures at c.in_err-put_line.ensures.writes))
