use Rattle.std.proofs.Common.{append_assoc, refl, rules, w64}
use Rattle.std.specs.Prelude.{FitsSigned}
use Rattle.std.proofs.lemmas.Int.{to_z-of_z}
use Rattle.dv_top.proofs.message.four.Goals as goal

pub returns : goal.returns
returns c =
    let num : FitsSigned w64 c.args.units.now.num = search rules in
    let den : FitsSigned w64 c.args.units.now.den = search rules in
    let mag : FitsSigned w64 c.args.units.now.mag = search rules in
    let dpi : FitsSigned w64 c.args.units.now.dpi = search rules in
    rw (
      c.number.ensures.value,
      c.field-3.ensures.value,
      c.field-2.ensures.value,
      c.field.ensures.value,
      c.text-2.ensures.value,
      c.text.ensures.value,
      to_z-of_z w64 c.args.units.now.num num,
      to_z-of_z w64 c.args.units.now.den den,
      to_z-of_z w64 c.args.units.now.mag mag,
      to_z-of_z w64 c.args.units.now.dpi dpi,
    )
    (simp append_assoc refl)
