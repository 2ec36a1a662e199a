use Rattle.std.proofs.Common.{◌∙◌}
use Rattle.ps_emit.specs.Shown.{Holds, pass_of}
use Rattle.ps_emit.proofs.Takes.{one_taken, one_refused}
use Rattle.ps_emit.proofs.emitter.EmitterCanvas.glyph.Goals as goal

pub returns-clause-ok : goal.returns-clause-ok
returns-clause-ok g c =
    let pass = pass_of c.args.self.now in
    let h = c.put_line.ensures.holds in
    let holds : Holds c.args.self.now c.put_line.new.self = record { loan_same = h.loan_same; fonts_same = h.fonts_same; comments_same = h.comments_same; pass_same = h.pass_same } in
    one_taken c.args.self.now c.put_line.new.self _ c.put_line.result (rw (c.glyph.ensures.value pass) at c.put_line.ensures.writes) holds (c.put_line.ensures.sheet ∙ c.glyph.ensures.sheet pass)

pub returns-clause-err : goal.returns-clause-err
returns-clause-err g c =
    let pass = pass_of c.args.self.now in
    let h = c.put_line.ensures.holds in
    let holds : Holds c.args.self.now c.put_line.new.self = record { loan_same = h.loan_same; fonts_same = h.fonts_same; comments_same = h.comments_same; pass_same = h.pass_same } in
    one_refused c.args.self.now c.put_line.new.self _ c.put_line.result (rw (c.glyph.ensures.value pass) at c.put_line.ensures.writes) holds
