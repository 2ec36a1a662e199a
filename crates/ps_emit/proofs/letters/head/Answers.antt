use Rattle.std.proofs.Common.{append_assoc, refl, rules, w32}
use Rattle.std.specs.Prelude.{FitsSigned}
use Rattle.std.proofs.lemmas.Int.{to_z-of_z}
use Rattle.ps_emit.proofs.letters.head.Goals as goal

pub returns-clause-value : goal.returns-clause-value
returns-clause-value c =
    let right : FitsSigned w32 c.args.glyph.now.hoff = search rules in
    let down : FitsSigned w32 c.args.glyph.now.voff = search rules in
    rw (
      c.text-3.ensures.value,
      c.number-2.ensures.value,
      c.field-3.ensures.value,
      c.text-2.ensures.value,
      c.field-2.ensures.value,
      c.field.ensures.value,
      c.text.ensures.value,
      c.number.ensures.value,
      c.clear.ensures,
      to_z-of_z w32 c.args.glyph.now.hoff right,
      to_z-of_z w32 c.args.glyph.now.voff down,
    )
    (simp append_assoc refl)
