use Rattle.std.proofs.Common.{rules, ◌<◌, ◌^◌, ◌-ℤ◌, unsigned_abs, w64, arith}
use Rattle.std.specs.Prelude.{FitsSigned}
use Rattle.std.proofs.lemmas.Int.{to_z-of_z, fits_signed_from_abs}
use Rattle.dvi_ops.specs.Command.Command.{Down}
use Rattle.dvicopy_out.proofs.Spelling.{two_parts}
use Rattle.dvicopy_out.proofs.pen.down.Goals as goal

pub returns-clause-value : goal.returns-clause-value
returns-clause-value c =
    let q = c.args.q in
    let first = c.first_part-first.result in
    let hq : FitsSigned w64 q = search rules in
    let hf : FitsSigned w64 first = search rules in
    let e = rw (to_z-of_z w64 q hq) at c.first_part-first.ensures.value in
    let rest = rw (to_z-of_z w64 q hq) at c.first_part-first.ensures.rest in
    let small : unsigned_abs (q -ℤ first) < 2 ^ 31 = rest c.requires.moderate in
    let hr : FitsSigned w64 (q -ℤ first) = fits_signed_from_abs w64 (q -ℤ first) (omega (arith, small)) in
    let a = rw (to_z-of_z w64 first hf) at c.part_down.ensures.value in
    let b = simp (to_z-of_z w64 q hq, to_z-of_z w64 first hf, to_z-of_z w64 (q -ℤ first) hr) at c.part_down-2.ensures.value in
    two_parts Down c.args.script.now c.part_down.new.script c.part_down-2.new.script q first e a b
