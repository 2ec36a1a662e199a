use Rattle.std.proofs.Common.{[]}
use Rattle.dvicopy_out.specs.Sent.{Out, cut_sends, cut_longer, then_sends}
use Rattle.dvicopy_out.proofs.Sending.{all_sends, sent_waits}
use Rattle.dvicopy_out.proofs.writer.send.Goals as goal

pub returns-then-bytes-len-clause-sends : goal.returns-then-bytes-len-clause-sends
returns-then-bytes-len-clause-sends g c =
    sent_waits c.args.bytes.now (g.T.Tray.seen c.args.tray.now) c.args.waiting.now.items c.append.new.buffer.items c.append.ensures.items

pub returns-in_err-flush-clause-sends : goal.returns-in_err-flush-clause-sends
returns-in_err-flush-clause-sends g c =
    cut_sends _ _ _ _ c.from_residual.ensures.0 (cut_longer [] c.args.bytes.now _ _ c.in_err-flush.ensures.sends)

pub returns-then-bytes-gt-ROOM-clause-sends : goal.returns-then-bytes-gt-ROOM-clause-sends
returns-then-bytes-gt-ROOM-clause-sends g c =
    let x : Out = record { seen = g.T.Tray.seen c.args.tray.now; waiting = c.args.waiting.now.items } in
    let y : Out = record { seen = g.T.Tray.seen c.flush.new.tray; waiting = c.flush.new.waiting.items } in
    let z : Out = record { seen = g.T.Tray.seen c.write_all.new.tray; waiting = c.flush.new.waiting.items } in
    then_sends [] c.args.bytes.now x y z c.write_all.result c.in_ok-flush.ensures.sends
    (all_sends c.args.bytes.now y z c.write_all.result c.in_ok-flush.ensures.none c.in_ok-flush.ensures.none c.write_all.ensures.all c.write_all.ensures.front c.write_all.ensures.failed c.write_all.ensures.keeps)
