use Rattle.std.proofs.Common.{subst, ◌++◌}
use Rattle.std.specs.Prelude.{codes}
use Rattle.sections.specs.Used.{is_used}
use Rattle.ps_subset.specs.Prolog.{line}
use Rattle.ps_subset.specs.FontText.{letter_lines}
use Rattle.ps_emit.specs.Letters.{letters_of, used_codes}
use Rattle.ps_emit.specs.Shown.{out_of, fonts_of}
use Rattle.ps_emit.specs.Written.{Cut, Writes, cut_writes, cut_longer, cut_later, then_writes}
use Rattle.ps_emit.proofs.FontLines.{font_parts}
use Rattle.ps_emit.proofs.emitter.Emitter.font.Goals as goal

pub returns-in_err-put_line-clause-writes : goal.returns-in_err-put_line-clause-writes
returns-in_err-put_line-clause-writes g c =
    let letters = letter_lines (letters_of (fonts_of c.args.self.now) c.args.id (used_codes (is_used c.args.usage.now c.args.id))) in
    cut_writes _ _ _ _ c.from_residual.ensures.0
    (subst (λ bs. Cut bs (out_of c.args.self.now) (out_of c.put_line.new.self)) (font_parts c.args.id letters)
    (cut_longer _ (letters ++ line (codes "E")) _ _ (rw (c.text-2.ensures.value, c.number-2.ensures.value, c.number.ensures.value, c.text.ensures.value, c.clear.ensures) at c.in_err-put_line.ensures.writes)))

pub returns-in_err-letters-clause-writes : goal.returns-in_err-letters-clause-writes
returns-in_err-letters-clause-writes g c =
    let letters = letter_lines (letters_of (fonts_of c.args.self.now) c.args.id (used_codes (is_used c.args.usage.now c.args.id))) in
    cut_writes _ _ _ _ c.from_residual-in_err-letters.ensures.0
    (subst (λ bs. Cut bs (out_of c.args.self.now) (out_of c.letters.new.self)) (font_parts c.args.id letters)
    (cut_later _ _ _ _ _ (rw (c.text-2.ensures.value, c.number-2.ensures.value, c.number.ensures.value, c.text.ensures.value, c.clear.ensures) at c.in_ok-put_line.ensures.writes)
    (cut_longer letters (line (codes "E")) _ _ (rw (c.put_line.ensures.holds.fonts_same) at c.in_err-letters.ensures.writes))))

pub returns-clause-writes : goal.returns-clause-writes
returns-clause-writes g c =
    let letters = letter_lines (letters_of (fonts_of c.args.self.now) c.args.id (used_codes (is_used c.args.usage.now c.args.id))) in
    subst (λ bs. Writes bs (out_of c.args.self.now) (out_of c.put.new.self) c.put.result) (font_parts c.args.id letters)
    (then_writes _ _ _ _ _ _ (rw (c.text-2.ensures.value, c.number-2.ensures.value, c.number.ensures.value, c.text.ensures.value, c.clear.ensures) at c.in_ok-put_line.ensures.writes)
    (then_writes letters (line (codes "E")) _ _ _ _ (rw (c.put_line.ensures.holds.fonts_same) at c.in_ok-letters.ensures.writes) c.put.ensures.writes))
