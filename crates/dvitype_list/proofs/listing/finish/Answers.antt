use Rattle.dvitype_list.proofs.Ending.{finish_lost, finished}
use Rattle.dvitype_list.proofs.listing.finish.Goals as goal

pub returns-in-Ok-send-clause-ok : goal.returns-in-Ok-send-clause-ok
returns-in-Ok-send-clause-ok g c = λ r first h. finished r first (g.T.Tray.seen c.args.tray.now) (g.T.Tray.seen c.send.new.tray) c.args.out.now.kept.items c.in-Ok-send.ensures.ok (rw c.in-Ok.is at h)

pub returns-in-Err-send-clause-fault : goal.returns-in-Err-send-clause-fault
returns-in-Err-send-clause-fault g c = λ r s set old new first ok err.
    finish_lost r first (g.T.Tray.seen c.args.tray.now) (g.T.Tray.seen c.send.new.tray) c.args.out.now.kept.items c.in-Err-send.ensures.cut (rw c.in-Ok.is at ok)

pub returns-in-Err-clause-fault : goal.returns-in-Err-clause-fault
returns-in-Err-clause-fault g c = λ r s set old new first ok err. c.stop.ensures.left r s set old new first (rw c.in-Err.is at err)
