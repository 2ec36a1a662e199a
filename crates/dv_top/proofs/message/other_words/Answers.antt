use Rattle.std.proofs.Common.{rules, w64, ap, ◌++◌, ◌∷◌, ◌∙◌, ℤ}
use Rattle.std.specs.Prelude.{FitsSigned, codes}
use Rattle.std.specs.Fmt.{signed_decimal}
use Rattle.std.proofs.lemmas.Int.{to_z-of_z}
use Rattle.dv_top.proofs.message.other_words.Goals as goal

pub returns-in-NoSuchPage : goal.returns-in-NoSuchPage
returns-in-NoSuchPage c =
    let k : FitsSigned w64 c.in-NoSuchPage.number = search rules in
    rw c.in-NoSuchPage.is
    (c.named.ensures.value ∙ ap (λ (z : ℤ). c.args.line.now ++ (codes "NoSuchPage" ++ 32 ∷ signed_decimal z)) (to_z-of_z w64 c.in-NoSuchPage.number k))

pub returns-in-TooManyPages : goal.returns-in-TooManyPages
returns-in-TooManyPages c = rw c.in-TooManyPages.is c.text-in-TooManyPages.ensures.value

pub returns-in-PageTooBig : goal.returns-in-PageTooBig
returns-in-PageTooBig c = rw c.in-PageTooBig.is c.too_big.ensures

pub returns-in-CopyTooLong : goal.returns-in-CopyTooLong
returns-in-CopyTooLong c = rw c.in-CopyTooLong.is c.text-in-CopyTooLong.ensures.value

pub returns-in-TooManySteps : goal.returns-in-TooManySteps
returns-in-TooManySteps c = rw c.in-TooManySteps.is c.text-in-TooManySteps.ensures.value

pub returns-in-RasterSpace : goal.returns-in-RasterSpace
returns-in-RasterSpace c = rw c.in-RasterSpace.is c.text-in-RasterSpace.ensures.value

pub returns-in-OutOfMemory : goal.returns-in-OutOfMemory
returns-in-OutOfMemory c = rw c.in-OutOfMemory.is c.text-in-OutOfMemory.ensures.value
