use Rattle.std.proofs.Common.{◌++◌, ◌∙◌}
use Rattle.positions.specs.MarkOf.{special_of}
use Rattle.dvicopy_out.specs.Sent.{cut_longer, cut_sends, then_sends}
use Rattle.dvicopy_out.specs.Shown.{Holds, holds_more, out_of, pen_of, place_of}
use Rattle.dvicopy_out.proofs.Spelling.{a_special}
use Rattle.dvicopy_out.proofs.Takes.{one_taken, one_refused, placed_both}
use Rattle.dvicopy_out.proofs.writer.WriterCanvas.special.Goals as goal

pub returns-in_err-put_script-clause-err : goal.returns-in_err-put_script-clause-err
returns-in_err-put_script-clause-err g c =
    let old = c.args.self.now in
    let m = c.args.mark.now in
    let h = c.in_err-put_script.ensures.holds in
    let holds : Holds {T = g.row.T.Denot} {G = g.T.Tray} old c.put_script.new.self = record { loan_same = h.loan_same; fonts_same = h.fonts_same } in
    let x = out_of {T = g.row.T.Denot} {G = g.T.Tray} old in
    let y = out_of {T = g.row.T.Denot} {G = g.T.Tray} c.put_script.new.self in
    one_refused {T = g.row.T.Denot} {G = g.T.Tray} old c.put_script.new.self (special_of m) (c.special.new.script ++ m.bytes.now) c.from_residual.result
    (a_special (pen_of {T = g.row.T.Denot} {G = g.T.Tray} old) m.h m.v m.bytes.now c.special.new.script c.special.ensures.value)
    (cut_sends (c.special.new.script ++ m.bytes.now) x y c.from_residual.result c.from_residual.ensures.0 (cut_longer c.special.new.script m.bytes.now x y c.in_err-put_script.ensures.sends)) holds

pub returns-clause-ok : goal.returns-clause-ok
returns-clause-ok g c =
    let old = c.args.self.now in
    let m = c.args.mark.now in
    let h = c.in_ok-put_script.ensures.holds in
    let first : Holds {T = g.row.T.Denot} {G = g.T.Tray} old c.put_script.new.self = record { loan_same = h.loan_same; fonts_same = h.fonts_same } in
    let x = out_of {T = g.row.T.Denot} {G = g.T.Tray} old in
    let y = out_of {T = g.row.T.Denot} {G = g.T.Tray} c.put_script.new.self in
    let z = out_of {T = g.row.T.Denot} {G = g.T.Tray} c.put.new.self in
    one_taken {T = g.row.T.Denot} {G = g.T.Tray} old c.put.new.self (special_of m) (c.special.new.script ++ m.bytes.now) c.put.result
    (a_special (pen_of {T = g.row.T.Denot} {G = g.T.Tray} old) m.h m.v m.bytes.now c.special.new.script c.special.ensures.value)
    (then_sends c.special.new.script m.bytes.now x y z c.put.result c.in_ok-put_script.ensures.sends c.put.ensures.sends)
    (placed_both c.special.new.script m.bytes.now (place_of {T = g.row.T.Denot} {G = g.T.Tray} old) (place_of {T = g.row.T.Denot} {G = g.T.Tray} c.put_script.new.self) (place_of {T = g.row.T.Denot} {G = g.T.Tray} c.put.new.self) c.put.result c.in_ok-put_script.ensures.place c.put.ensures.place)
    (c.put.ensures.last ∙ c.in_ok-put_script.ensures.last) (c.put.ensures.pen ∙ c.in_ok-put_script.ensures.pen ∙ c.special.ensures.pen)
    (holds_more {T = g.row.T.Denot} {G = g.T.Tray} old c.put_script.new.self c.put.new.self first c.put.ensures.holds)

pub returns-clause-err : goal.returns-clause-err
returns-clause-err g c =
    let old = c.args.self.now in
    let m = c.args.mark.now in
    let h = c.in_ok-put_script.ensures.holds in
    let first : Holds {T = g.row.T.Denot} {G = g.T.Tray} old c.put_script.new.self = record { loan_same = h.loan_same; fonts_same = h.fonts_same } in
    let x = out_of {T = g.row.T.Denot} {G = g.T.Tray} old in
    let y = out_of {T = g.row.T.Denot} {G = g.T.Tray} c.put_script.new.self in
    let z = out_of {T = g.row.T.Denot} {G = g.T.Tray} c.put.new.self in
    one_refused {T = g.row.T.Denot} {G = g.T.Tray} old c.put.new.self (special_of m) (c.special.new.script ++ m.bytes.now) c.put.result
    (a_special (pen_of {T = g.row.T.Denot} {G = g.T.Tray} old) m.h m.v m.bytes.now c.special.new.script c.special.ensures.value)
    (then_sends c.special.new.script m.bytes.now x y z c.put.result c.in_ok-put_script.ensures.sends c.put.ensures.sends)
    (holds_more {T = g.row.T.Denot} {G = g.T.Tray} old c.put_script.new.self c.put.new.self first c.put.ensures.holds)
