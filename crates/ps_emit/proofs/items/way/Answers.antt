use Rattle.std.proofs.Common.{append_assoc, refl, rules, w64}
use Rattle.std.specs.Prelude.{FitsSigned, ◌-ℤ◌}
use Rattle.std.proofs.lemmas.Int.{to_z-of_z}
use Rattle.ps_emit.proofs.Ways.{goes_across, goes_down, goes_to}
use Rattle.ps_emit.proofs.items.way.Goals as goal

pub returns-then-from-to-2-clause-value : goal.returns-then-from-to-2-clause-value
returns-then-from-to-2-clause-value c =
    let a : FitsSigned w64 c.args.to.0 = search rules in
    let b : FitsSigned w64 c.args.from.0 = search rules in
    let d : FitsSigned w64 (c.args.to.0 -ℤ c.args.from.0) = search rules in
    rw (
      c.text-then-from-to-2.ensures.value,
      c.field-then-from-to-2.ensures.value,
      c.if-lost.false,
      goes_across c.args.from.0 c.args.from.1 c.args.to.0 c.args.to.1 (search rules) (search rules),
      to_z-of_z w64 c.args.to.0 a,
      to_z-of_z w64 c.args.from.0 b,
      to_z-of_z w64 (c.args.to.0 -ℤ c.args.from.0) d,
    )
    (simp append_assoc refl)

pub returns-then-from-to-3-clause-value : goal.returns-then-from-to-3-clause-value
returns-then-from-to-3-clause-value c =
    let a : FitsSigned w64 c.args.to.1 = search rules in
    let b : FitsSigned w64 c.args.from.1 = search rules in
    let d : FitsSigned w64 (c.args.to.1 -ℤ c.args.from.1) = search rules in
    rw (
      c.text-then-from-to-3.ensures.value,
      c.field-then-from-to-3.ensures.value,
      c.if-lost.false,
      goes_down c.args.from.0 c.args.from.1 c.args.to.0 c.args.to.1 (search rules) (search rules),
      to_z-of_z w64 c.args.to.1 a,
      to_z-of_z w64 c.args.from.1 b,
      to_z-of_z w64 (c.args.to.1 -ℤ c.args.from.1) d,
    )
    (simp append_assoc refl)

pub returns-else-from-to-3-clause-value : goal.returns-else-from-to-3-clause-value
returns-else-from-to-3-clause-value c =
    let x : FitsSigned w64 c.args.to.0 = search rules in
    let y : FitsSigned w64 c.args.to.1 = search rules in
    rw (
      c.text-else-from-to-3.ensures.value,
      c.field-else-from-to-3-2.ensures.value,
      c.field-else-from-to-3.ensures.value,
      c.if-lost.false,
      goes_to c.args.from.0 c.args.from.1 c.args.to.0 c.args.to.1 (search rules) (search rules),
      to_z-of_z w64 c.args.to.0 x,
      to_z-of_z w64 c.args.to.1 y,
    )
    (simp append_assoc refl)
