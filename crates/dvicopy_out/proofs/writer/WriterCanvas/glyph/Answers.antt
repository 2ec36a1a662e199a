use Rattle.std.proofs.Common.{◌≡◌, ℕ, ap, ◌∙◌}
use Rattle.positions.specs.MarkOf.{glyph_of}
use Rattle.dvicopy_out.specs.Spelled.{spelled}
use Rattle.dvicopy_out.specs.Marked.{glyph_commands, glyph_pen}
use Rattle.dvicopy_out.specs.Shown.{Holds, fonts_of, pen_of}
use Rattle.dvicopy_out.specs.Numbered.{number_of}
use Rattle.dvicopy_out.proofs.Takes.{one_taken, one_refused}
use Rattle.dvicopy_out.proofs.writer.WriterCanvas.glyph.Goals as goal

pub returns-clause-ok : goal.returns-clause-ok
returns-clause-ok g c =
    let old = c.args.self.now in
    let m = c.args.mark.now in
    let number : c.of-number.result ≡ number_of (fonts_of {T = g.row.T.Denot} {G = g.T.Tray} old) m.font = c.of-number.ensures.value ∙ old.table m.font c.requires.1.1 in
    let h = c.put_script.ensures.holds in
    let holds : Holds {T = g.row.T.Denot} {G = g.T.Tray} old c.put_script.new.self = record { loan_same = h.loan_same; fonts_same = h.fonts_same } in
    one_taken {T = g.row.T.Denot} {G = g.T.Tray} old c.put_script.new.self (glyph_of m) c.glyph.new.script c.put_script.result
    (c.glyph.ensures.value ∙ ap (λ (n : ℕ). spelled (glyph_commands (pen_of {T = g.row.T.Denot} {G = g.T.Tray} old) n m.code m.h m.v m.width)) number)
    c.put_script.ensures.sends c.put_script.ensures.place c.put_script.ensures.last (c.put_script.ensures.pen ∙ c.glyph.ensures.pen ∙ ap (λ (n : ℕ). glyph_pen n m.h m.v m.width) number) holds

pub returns-clause-err : goal.returns-clause-err
returns-clause-err g c =
    let old = c.args.self.now in
    let m = c.args.mark.now in
    let number : c.of-number.result ≡ number_of (fonts_of {T = g.row.T.Denot} {G = g.T.Tray} old) m.font = c.of-number.ensures.value ∙ old.table m.font c.requires.1.1 in
    let h = c.put_script.ensures.holds in
    let holds : Holds {T = g.row.T.Denot} {G = g.T.Tray} old c.put_script.new.self = record { loan_same = h.loan_same; fonts_same = h.fonts_same } in
    one_refused {T = g.row.T.Denot} {G = g.T.Tray} old c.put_script.new.self (glyph_of m) c.glyph.new.script c.put_script.result
    (c.glyph.ensures.value ∙ ap (λ (n : ℕ). spelled (glyph_commands (pen_of {T = g.row.T.Denot} {G = g.T.Tray} old) n m.code m.h m.v m.width)) number)
    c.put_script.ensures.sends holds
