use Rattle.std.proofs.Common.{rules, w64, ◌∙◌, ap, ◌++◌, ◌∷◌, ℤ}
use Rattle.std.specs.Prelude.{FitsSigned, codes}
use Rattle.std.specs.Fmt.{signed_decimal}
use Rattle.std.proofs.lemmas.Int.{to_z-of_z}
use Rattle.dv_top.proofs.message.fault.Goals as goal

pub returns-in-FontDiffers : goal.returns-in-FontDiffers
returns-in-FontDiffers c =
    let k : FitsSigned w64 c.in-FontDiffers.k = search rules in
    rw c.in-FontDiffers.is
    (c.named-in-FontDiffers.ensures.value ∙ ap (λ (z : ℤ). c.args.line.now ++ (codes "FontDiffers" ++ 32 ∷ signed_decimal z)) (to_z-of_z w64 c.in-FontDiffers.k k))

pub returns-in-OutOfMemory : goal.returns-in-OutOfMemory
returns-in-OutOfMemory c = rw c.in-OutOfMemory.is c.text-in-OutOfMemory.ensures.value
