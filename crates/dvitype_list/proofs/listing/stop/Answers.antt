use Rattle.dvitype_list.proofs.Ending.{failed, failed_lost}
use Rattle.dvitype_list.proofs.listing.stop.Goals as goal

pub returns-in-Ok-clause-left : goal.returns-in-Ok-clause-left
returns-in-Ok-clause-left g c = λ r s set old new first h.
    failed r s set old new first (g.T.Tray.seen c.args.tray.now) (g.T.Tray.seen c.send.new.tray) c.args.out.now.kept.items c.args.fault c.in_default.not-WriteFault c.in-Ok.ensures.ok h

pub returns-in-Err-clause-left : goal.returns-in-Err-clause-left
returns-in-Err-clause-left g c = λ r s set old new first h.
    failed_lost r s set old new first (g.T.Tray.seen c.args.tray.now) (g.T.Tray.seen c.send.new.tray) c.args.out.now.kept.items c.args.fault c.in_default.not-WriteFault c.in-Err.ensures.cut h
