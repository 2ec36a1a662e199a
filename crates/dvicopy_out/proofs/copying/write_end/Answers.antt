use Rattle.std.proofs.Common.{[], subst}
use Rattle.std.proofs.lemmas.List.{append-nil}
use Rattle.dvicopy_out.specs.Copies.{filling}
use Rattle.dvicopy_out.specs.Sent.{Cut, Sends, Sent, cut_sends, then_sends}
use Rattle.dvicopy_out.specs.Shown.{out_of, place_of}
use Rattle.dvicopy_out.proofs.Ending.{filled}
use Rattle.dvicopy_out.proofs.copying.write_end.Goals as goal

pub returns-in_err-put-clause-sends : goal.returns-in_err-put-clause-sends
returns-in_err-put-clause-sends g c =
    let x = out_of {T = g.row.T.Denot} {G = g.T.Tray} c.args.writer.now in
    let y = out_of {T = g.row.T.Denot} {G = g.T.Tray} c.put.new.self in
    cut_sends _ x y c.from_residual.result c.from_residual.ensures.0
    (subst (λ bs. Cut bs x y) (filled (place_of {T = g.row.T.Denot} {G = g.T.Tray} c.args.writer.now) c.place.result c.fill-count.result c.place.ensures c.fill-count.ensures.value) c.in_err-put.ensures.sends)

pub returns-clause-sends : goal.returns-clause-sends
returns-clause-sends g c =
    let x = out_of {T = g.row.T.Denot} {G = g.T.Tray} c.args.writer.now in
    let y = out_of {T = g.row.T.Denot} {G = g.T.Tray} c.put.new.self in
    let z = out_of {T = g.row.T.Denot} {G = g.T.Tray} c.finish.new.self in
    let text = filling (place_of {T = g.row.T.Denot} {G = g.T.Tray} c.args.writer.now) in
    let one : Sent text x y = subst (λ bs. Sent bs x y) (filled (place_of {T = g.row.T.Denot} {G = g.T.Tray} c.args.writer.now) c.place.result c.fill-count.result c.place.ensures c.fill-count.ensures.value) c.in_ok-put.ensures.sends in
    subst (λ bs. Sends bs x z c.finish.result) (append-nil text) (then_sends text [] x y z c.finish.result one c.finish.ensures.sends)
