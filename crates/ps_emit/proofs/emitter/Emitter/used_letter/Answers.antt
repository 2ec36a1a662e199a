use Rattle.std.proofs.Common.{sym, ◌∙◌, subst, [], ◌∷◌, Bool}
use Rattle.std.specs.Prelude.{if◌then◌else◌}
use Rattle.ps_subset.specs.FontText.{letter_lines}
use Rattle.ps_emit.specs.Letters.{letters_of}
use Rattle.ps_emit.specs.Shown.{out_of, fonts_of}
use Rattle.ps_emit.specs.Written.{Wrote, wrote_nothing}
use Rattle.ps_emit.proofs.emitter.Emitter.used_letter.Goals as goal

pub returns-else-used-clause-writes : goal.returns-else-used-clause-writes
returns-else-used-clause-writes g c =
    let e = c.args.self.now in
    subst (λ (b : Bool). Wrote (letter_lines (letters_of (fonts_of e) c.args.id (if b then (c.args.number ∷ []) else []))) (out_of e) (out_of e)) (sym (sym c.has-used.ensures ∙ c.if-used.false)) (wrote_nothing (out_of e) e.fits)
