use Rattle.std.proofs.Common.{append_assoc, refl, rules, w64}
use Rattle.std.specs.Prelude.{FitsSigned, pos, ◌-ℤ◌}
use Rattle.std.proofs.lemmas.Int.{to_z-of_z}
use Rattle.ps_emit.proofs.letters.behind.Goals as goal

pub returns : goal.returns
returns c =
    let pixels : FitsSigned w64 c.args.pixels = search rules in
    let w : FitsSigned w64 c.args.w = search rules in
    let h : FitsSigned w64 c.args.h = search rules in
    let hoff : FitsSigned w64 c.args.hoff = search rules in
    let voff : FitsSigned w64 c.args.voff = search rules in
    let left : FitsSigned w64 (pos 0 -ℤ c.args.hoff) = search rules in
    let up : FitsSigned w64 (pos 0 -ℤ c.args.voff) = search rules in
    let right : FitsSigned w64 (c.args.w -ℤ c.args.hoff) = search rules in
    let down : FitsSigned w64 (c.args.h -ℤ c.args.voff) = search rules in
    rw (
      c.text-3.ensures.value,
      c.number.ensures.value,
      c.field-4.ensures.value,
      c.field-3.ensures.value,
      c.field-2.ensures.value,
      c.text-2.ensures.value,
      c.field.ensures.value,
      c.text.ensures.value,
      to_z-of_z w64 c.args.pixels pixels,
      to_z-of_z w64 c.args.hoff hoff,
      to_z-of_z w64 c.args.voff voff,
      to_z-of_z w64 c.args.w w,
      to_z-of_z w64 c.args.h h,
      to_z-of_z w64 (pos 0 -ℤ c.args.hoff) left,
      to_z-of_z w64 (pos 0 -ℤ c.args.voff) up,
      to_z-of_z w64 (c.args.w -ℤ c.args.hoff) right,
      to_z-of_z w64 (c.args.h -ℤ c.args.voff) down,
    )
    (simp append_assoc refl)
