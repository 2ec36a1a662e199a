use Rattle.std.proofs.Common.{[], sym, subst, rules}
use Rattle.std.proofs.lemmas.List.{append-nil}
use Rattle.dv_base.specs.Tray.{Appends, AppendsFront, WhereTold}
use Rattle.dvicopy_out.specs.Sent.{Out, cut_sends}
use Rattle.dvicopy_out.proofs.Sending.{all_sent, front_cut}
use Rattle.dvicopy_out.proofs.writer.flush.Goals as goal

pub returns-in_err-write_all-clause-sends : goal.returns-in_err-write_all-clause-sends
returns-in_err-write_all-clause-sends g c =
    let x : Out = record { seen = g.T.Tray.seen c.args.tray.now; waiting = c.args.waiting.now.items } in
    let y : Out = record { seen = g.T.Tray.seen c.write_all.new.tray; waiting = c.args.waiting.now.items } in
    cut_sends [] x y c.from_residual.result c.from_residual.ensures.0
    (front_cut [] x y (subst (λ w. WhereTold (AppendsFront w) x.seen.outputs y.seen.outputs) (sym (append-nil c.args.waiting.now.items)) (rw c.as_slice.ensures.value at c.in_err-write_all.ensures.front)) c.in_err-write_all.ensures.failed c.in_err-write_all.ensures.keeps)

pub returns-clause-sends : goal.returns-clause-sends
returns-clause-sends g c =
    let x : Out = record { seen = g.T.Tray.seen c.args.tray.now; waiting = c.args.waiting.now.items } in
    let y : Out = record { seen = g.T.Tray.seen c.write_all.new.tray; waiting = c.clear.new.self.items } in
    all_sent [] x y (search rules) (subst (λ w. WhereTold (Appends w) x.seen.outputs y.seen.outputs) (sym (append-nil c.args.waiting.now.items)) (rw c.as_slice.ensures.value at c.in_ok-write_all.ensures.all)) c.in_ok-write_all.ensures.keeps
