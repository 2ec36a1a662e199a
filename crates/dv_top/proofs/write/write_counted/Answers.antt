use Rattle.ps_emit.specs.Shown.{out_of}
use Rattle.ps_emit.specs.Written.{cut_writes}
use Rattle.dv_top.proofs.write.write_counted.Goals as goal

pub returns-in_err-write_text-clause-writes : goal.returns-in_err-write_text-clause-writes
returns-in_err-write_text-clause-writes g c = λ pages are printed e.
    cut_writes _ (out_of {T = g.row.T.Denot} {G = g.T.Tray} c.args.emitter.now) (out_of {T = g.row.T.Denot} {G = g.T.Tray} c.write_text.new.emitter) c.from_residual.result c.from_residual.ensures.0
    (c.in_err-write_text.ensures.writes pages are printed e)

pub returns-clause-writes : goal.returns-clause-writes
returns-clause-writes g c = λ pages are printed e. c.in_ok-write_text.ensures.writes pages are printed e
