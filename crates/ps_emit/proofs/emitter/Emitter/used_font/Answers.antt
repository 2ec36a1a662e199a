use Rattle.std.proofs.Common.{sym, ap, ◌∙◌, subst, [], ◌∷◌, Bool}
use Rattle.std.specs.Prelude.{if◌then◌else◌}
use Rattle.sections.specs.Used.{is_used, uses_font}
use Rattle.ps_subset.specs.FontText.{fonts_lines}
use Rattle.ps_emit.specs.Letters.{some_fonts}
use Rattle.ps_emit.specs.Shown.{out_of, fonts_of}
use Rattle.ps_emit.specs.Written.{Wrote, wrote_nothing}
use Rattle.ps_emit.proofs.emitter.Emitter.used_font.Goals as goal

pub returns-else-used-clause-writes : goal.returns-else-used-clause-writes
returns-else-used-clause-writes g c =
    let e = c.args.self.now in
    subst (λ (b : Bool). Wrote (fonts_lines (some_fonts (fonts_of e) (is_used c.args.usage.now) (if b then (c.args.number ∷ []) else []))) (out_of e) (out_of e))
    (sym (ap (uses_font c.args.usage.now) (sym c.in-Some.ensures.0) ∙ sym c.uses-used.ensures ∙ c.if-used.false)) (wrote_nothing (out_of e) e.fits)
