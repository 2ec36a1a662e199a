use Rattle.std.proofs.Common.{◌∙◌}
use Rattle.positions.specs.MarkOf.{rule_of}
use Rattle.dvicopy_out.specs.Shown.{Holds}
use Rattle.dvicopy_out.proofs.Takes.{one_taken, one_refused}
use Rattle.dvicopy_out.proofs.writer.WriterCanvas.rule.Goals as goal

pub returns-clause-ok : goal.returns-clause-ok
returns-clause-ok g c =
    let h = c.put_script.ensures.holds in
    let holds : Holds {T = g.row.T.Denot} {G = g.T.Tray} c.args.self.now c.put_script.new.self = record { loan_same = h.loan_same; fonts_same = h.fonts_same } in
    one_taken {T = g.row.T.Denot} {G = g.T.Tray} c.args.self.now c.put_script.new.self (rule_of c.args.mark.now) c.rule.new.script c.put_script.result c.rule.ensures.value
    c.put_script.ensures.sends c.put_script.ensures.place c.put_script.ensures.last (c.put_script.ensures.pen ∙ c.rule.ensures.pen) holds

pub returns-clause-err : goal.returns-clause-err
returns-clause-err g c =
    let h = c.put_script.ensures.holds in
    let holds : Holds {T = g.row.T.Denot} {G = g.T.Tray} c.args.self.now c.put_script.new.self = record { loan_same = h.loan_same; fonts_same = h.fonts_same } in
    one_refused {T = g.row.T.Denot} {G = g.T.Tray} c.args.self.now c.put_script.new.self (rule_of c.args.mark.now) c.rule.new.script c.put_script.result c.rule.ensures.value c.put_script.ensures.sends holds
