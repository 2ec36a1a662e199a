use Rattle.std.proofs.Common.{refl, ◌++◌}
use Rattle.dvitype_list.proofs.Gathering.{at_err, cut_longer, on_err_two, on_ok, sent_front, sent_piece}
use Rattle.dvitype_list.proofs.gathered.Gatherer.text.Goals as goal

pub returns-in_err-send-clause-cut : goal.returns-in_err-send-clause-cut
returns-in_err-send-clause-cut g c = λ first text h. at_err c.from_residual.result (cut_longer first (g.T.Tray.seen c.send.new.tray) text c.args.piece.now (text ++ c.args.piece.now) refl (c.in_err-send.ensures.cut first text h))

pub returns-clause-ok : goal.returns-clause-ok
returns-clause-ok g c = λ first text h.
    let seen = g.T.Tray.seen in
    on_ok c.write_all.result (λ w. sent_piece first (seen c.send.new.tray) (seen c.write_all.new.tray) c.send.new.self.kept.items text c.args.piece.now c.in_ok-send.ensures.none (c.in_ok-send.ensures.ok first text h) w c.write_all.ensures.keeps) c.write_all.ensures.all

pub returns-clause-cut : goal.returns-clause-cut
returns-clause-cut g c = λ first text h.
    let seen = g.T.Tray.seen in
    on_err_two c.write_all.result (λ w r. sent_front first (seen c.send.new.tray) (seen c.write_all.new.tray) text c.args.piece.now (c.in_ok-send.ensures.ok first text h) w r c.write_all.ensures.keeps) c.write_all.ensures.front c.write_all.ensures.failed
