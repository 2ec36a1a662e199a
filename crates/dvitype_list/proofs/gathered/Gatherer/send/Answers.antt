use Rattle.dvitype_list.proofs.Gathering.{at_err, sent_all, sent_cut}
use Rattle.dvitype_list.proofs.gathered.Gatherer.send.Goals as goal

pub returns-in_err-write_all-clause-cut : goal.returns-in_err-write_all-clause-cut
returns-in_err-write_all-clause-cut g c = λ first text h.
    let seen = g.T.Tray.seen in
    at_err c.from_residual.result (sent_cut first (seen c.args.tray.now) (seen c.write_all.new.tray) c.args.self.now.kept.items c.deref.result.now text c.deref.ensures.value h c.in_err-write_all.ensures.front c.in_err-write_all.ensures.failed c.write_all.ensures.keeps)

pub returns-clause-ok : goal.returns-clause-ok
returns-clause-ok g c = λ first text h.
    let seen = g.T.Tray.seen in
    sent_all first (seen c.args.tray.now) (seen c.write_all.new.tray) c.args.self.now.kept.items c.deref.result.now text c.deref.ensures.value h c.in_ok-write_all.ensures.all c.write_all.ensures.keeps
