use Rattle.std.proofs.Common.{◌∙◌, sym, rules, w64, arith}
use Rattle.std.specs.Prelude.{FitsSigned}
use Rattle.std.proofs.lemmas.Int.{to_z-of_z}
use Rattle.font_set.specs.Views.{bitmap_of}
use Rattle.ps_emit.proofs.tests.set.Goals as goal

pub glyph-requires-in-Some-Some : goal.glyph-requires-in-Some-Some
glyph-requires-in-Some-Some c =
    let x : FitsSigned w64 c.args.at.0 = search rules in
    let y : FitsSigned w64 c.args.at.1 = search rules in
    let pixels : FitsSigned w64 c.in-Some-Some.pixels = search rules in
    rw (to_z-of_z w64 c.args.at.0 x, to_z-of_z w64 c.args.at.1 y, to_z-of_z w64 c.in-Some-Some.pixels pixels, c.requires.same) (
      c.requires.begun,
      (
        (c.requires.at.0, c.requires.at.1, omega arith, omega arith, omega arith, c.in-Some-Some.ensures'.bound),
        omega (arith, c.ranges.code.fits),
        sym c.in-Some-Some.ensures'.value,
        (bitmap_of c.in-Some-Some.field-0-0, c.in-Some-Some.ensures.value),
      ),
    )
