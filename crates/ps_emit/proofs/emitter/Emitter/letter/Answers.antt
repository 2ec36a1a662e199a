use Rattle.std.proofs.Common.{sym, ap, ◌∙◌, subst, [], Option, rules, w64}
use Rattle.std.specs.Prelude.{FitsSigned}
use Rattle.std.proofs.lemmas.Int.{to_z-of_z}
use Rattle.std.proofs.lemmas.List.{append-nil}
use Rattle.font_set.specs.Views.{bitmap_of}
use Rattle.ps_subset.specs.Fonts.{Letter}
use Rattle.ps_subset.specs.FontText.{letter_line, letter_lines}
use Rattle.ps_emit.specs.Letters.{put_letter}
use Rattle.ps_emit.specs.Shown.{out_of, fonts_of}
use Rattle.ps_emit.specs.Written.{Wrote, Writes, wrote_nothing}
use Rattle.ps_emit.proofs.FontLines.{no_bitmap, no_width, printed_line}
use Rattle.ps_emit.proofs.Uses.{letter, letter_is}
use Rattle.ps_emit.proofs.emitter.Emitter.letter.Goals as goal

pub returns-in-None-clause-writes : goal.returns-in-None-clause-writes
returns-in-None-clause-writes g c =
    let e = c.args.self.now in
    subst (λ (o : Option Letter). Wrote (letter_lines (put_letter o [])) (out_of e) (out_of e)) (sym (no_bitmap (fonts_of e) c.args.id c.args.code c.in-None.ensures.value)) (wrote_nothing (out_of e) e.fits)

pub returns-in-None-pixels-clause-writes : goal.returns-in-None-pixels-clause-writes
returns-in-None-pixels-clause-writes g c =
    let e = c.args.self.now in
    subst (λ (o : Option Letter). Wrote (letter_lines (put_letter o [])) (out_of e) (out_of e)) (sym (no_width (fonts_of e) c.args.id c.args.code (sym c.in-None-pixels.ensures.value))) (wrote_nothing (out_of e) e.fits)

pub returns-in-Some-pixels-clause-writes : goal.returns-in-Some-pixels-clause-writes
returns-in-Some-pixels-clause-writes g c =
    let e = c.args.self.now in
    let b = bitmap_of c.in-Some.glyph in
    let p = bitmap_of c.printed-glyph.result in
    let width = c.in-Some-pixels.pixels in
    let fits : FitsSigned w64 c.in-Some-pixels.pixels = search rules in
    let l = letter c.args.code b width in
    subst (λ bs. Writes bs (out_of e) (out_of c.drawn.new.self) c.drawn.result)
    (printed_line c.args.code b p width (c.printed-glyph.ensures width) ∙ sym (append-nil (letter_line l))
    ∙ ap (λ (o : Option Letter). letter_lines (put_letter o [])) (sym (letter_is (fonts_of e) c.args.id c.args.code b width c.in-Some.ensures.value (sym c.in-Some-pixels.ensures.value))))
    (rw (to_z-of_z w64 width fits) at c.drawn.ensures.writes)
