use Rattle.std.proofs.Common.{subst}
use Rattle.ps_emit.specs.Shown.{out_of}
use Rattle.ps_emit.specs.Written.{Cut, Writes, cut_writes, cut_longer, cut_later, then_writes}
use Rattle.ps_emit.proofs.emitter.Emitter.pass.Goals as goal

pub returns-in_err-put_line-clause-writes : goal.returns-in_err-put_line-clause-writes
returns-in_err-put_line-clause-writes g c =
    cut_writes _ _ _ _ c.from_residual.ensures.0
    (subst (λ bs. Cut bs (out_of c.args.self.now) (out_of c.put_line.new.self)) c.block.ensures.value (cut_longer _ _ _ _ c.in_err-put_line.ensures.writes))

pub returns-in_err-put-clause-writes : goal.returns-in_err-put-clause-writes
returns-in_err-put-clause-writes g c =
    cut_writes _ _ _ _ c.from_residual-in_err-put.ensures.0
    (subst (λ bs. Cut bs (out_of c.args.self.now) (out_of c.put.new.self)) c.block.ensures.value
    (cut_later _ _ _ _ _ c.in_ok-put_line.ensures.writes (cut_longer _ _ _ _ c.in_err-put.ensures.writes)))

pub returns-clause-writes : goal.returns-clause-writes
returns-clause-writes g c =
    subst (λ bs. Writes bs (out_of c.args.self.now) (out_of c.put-2.new.self) c.put-2.result) c.block.ensures.value
    (then_writes _ _ _ _ _ _ c.in_ok-put_line.ensures.writes (then_writes _ _ _ _ _ _ c.in_ok-put.ensures.writes c.put-2.ensures.writes))
