use Rattle.std.proofs.Common.{◌≡◌, ℕ, List, arith, ap, ◌∙◌, refl, length}
use Rattle.positions.specs.MarkOf.{glyph_of}
use Rattle.dvicopy_out.specs.Spelled.{spelled}
use Rattle.dvicopy_out.specs.Marked.{glyph_commands, glyph_pen}
use Rattle.dvicopy_out.specs.Measured.{fonts_of, pen_of}
use Rattle.dvicopy_out.specs.Numbered.{number_of}
use Rattle.dvicopy_out.proofs.Takes.{one_measured}
use Rattle.dvicopy_out.proofs.measure.MeasureCanvas.glyph.Goals as goal

pub returns-clause-ok : goal.returns-clause-ok
returns-clause-ok c =
    let old = c.args.self.now in
    let m = c.args.mark.now in
    let number : c.of-number.result ≡ number_of (fonts_of old) m.font = c.of-number.ensures.value ∙ old.table m.font c.requires.1 in
    one_measured old _ (glyph_of m) c.glyph.new.script refl (c.glyph.ensures.pen ∙ ap (λ (n : ℕ). glyph_pen n m.h m.v m.width) number)
    (c.glyph.ensures.value ∙ ap (λ (n : ℕ). spelled (glyph_commands (pen_of old) n m.code m.h m.v m.width)) number)
    (omega (arith, c.saturating_add-self.ensures, ap (λ (xs : List ℕ). length xs) c.as_slice.ensures))
