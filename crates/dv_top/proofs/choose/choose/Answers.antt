use Rattle.std.proofs.Common.{rules, w64, ap, refl}
use Rattle.std.specs.Prelude.{FitsSigned}
use Rattle.std.proofs.lemmas.Int.{to_z-of_z}
use Rattle.dv_words.specs.declared.selection.SelectFault.TheVariants as select
use Rattle.dv_top.specs.Selecting.{Request}
use Rattle.dv_top.specs.declared.outcome.Outcome.TheVariants as outcome
use Rattle.dv_top.proofs.Chosen.{choice_here, no_choice_here, places_here, places_within}
use Rattle.dv_top.proofs.choose.choose.Goals as goal

pub returns-in-Ok-clause-choice : goal.returns-in-Ok-clause-choice
returns-in-Ok-clause-choice c = λ d is.
    let asked : Request = record { windows = c.args.windows.now; parity = c.args.parity; limit = c.args.limit; reversed = c.args.reversed; collated = c.args.collated } in
    choice_here asked c.one_document.ensures c.args.doc.now d c.in-Ok.places.items c.requires.read is c.in-Ok.ensures.chosen

pub returns-in-Ok-clause-places : goal.returns-in-Ok-clause-places
returns-in-Ok-clause-places c = λ d is.
    let asked : Request = record { windows = c.args.windows.now; parity = c.args.parity; limit = c.args.limit; reversed = c.args.reversed; collated = c.args.collated } in
    places_here asked c.one_document.ensures c.args.doc.now d c.in-Ok.places.items c.requires.read is c.in-Ok.ensures.chosen

pub returns-in-Ok-clause-within : goal.returns-in-Ok-clause-within
returns-in-Ok-clause-within c =
    let asked : Request = record { windows = c.args.windows.now; parity = c.args.parity; limit = c.args.limit; reversed = c.args.reversed; collated = c.args.collated } in
    places_within asked c.args.doc.now.pages c.in-Ok.places.items c.in-Ok.ensures.chosen

pub returns-in-Err-NoSuchPage-clause-cause : goal.returns-in-Err-NoSuchPage-clause-cause
returns-in-Err-NoSuchPage-clause-cause c = λ d is.
    let asked : Request = record { windows = c.args.windows.now; parity = c.args.parity; limit = c.args.limit; reversed = c.args.reversed; collated = c.args.collated } in
    let n = c.in-Err-NoSuchPage.number in
    let fits : FitsSigned w64 n = search rules in
    (select.NoSuchPage n, ap outcome.NoSuchPage (to_z-of_z w64 n fits), no_choice_here asked c.one_document.ensures c.args.doc.now d (select.NoSuchPage n) c.requires.read is (rw c.in-Err-NoSuchPage.field-0-is at c.in-Err-NoSuchPage.ensures.fault))

pub returns-in-Err-TooManyPages-clause-cause : goal.returns-in-Err-TooManyPages-clause-cause
returns-in-Err-TooManyPages-clause-cause c = λ d is.
    let asked : Request = record { windows = c.args.windows.now; parity = c.args.parity; limit = c.args.limit; reversed = c.args.reversed; collated = c.args.collated } in
    (select.TooManyPages, refl, no_choice_here asked c.one_document.ensures c.args.doc.now d select.TooManyPages c.requires.read is (rw c.in-Err-TooManyPages.field-0-is at c.in-Err-TooManyPages.ensures.fault))
