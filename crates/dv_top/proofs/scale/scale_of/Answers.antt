use Rattle.std.proofs.Common.{rules, refl, ◌∙◌, w32, w64}
use Rattle.std.specs.Prelude.{FitsSigned}
use Rattle.std.proofs.lemmas.Int.{to_z-of_z}
use Rattle.dvi_ops.specs.View.{head_view}
use Rattle.dv_top.proofs.UnitsRead.{units_read}
use Rattle.dv_top.proofs.scale.scale_of.Goals as goal

pub returns-in-Some-clause-units : goal.returns-in-Some-clause-units
returns-in-Some-clause-units c = λ d is.
    let num_small : FitsSigned w32 c.head-head.result.num = search rules in
    let den_small : FitsSigned w32 c.head-head.result.den = search rules in
    let num : FitsSigned w64 c.from.result = search rules in
    let den : FitsSigned w64 c.from-2.result = search rules in
    let mag_small : FitsSigned w32 c.head-head.result.mag = search rules in
    let mag : FitsSigned w64 c.magnification.result = search rules in
    let dpi : FitsSigned w64 c.from-3.result = search rules in
    let same = units_read c.one_document.ensures c.args.doc.now d (head_view c.head-head.result) c.args.mag c.args.dpi _ _ _ _ c.requires.read is c.head-head.ensures.value
    (to_z-of_z w64 c.from.result num ∙ c.from.ensures ∙ to_z-of_z w32 c.head-head.result.num num_small) (to_z-of_z w64 c.from-2.result den ∙ c.from-2.ensures ∙ to_z-of_z w32 c.head-head.result.den den_small)
    (to_z-of_z w64 c.magnification.result mag ∙ rw (to_z-of_z w32 c.head-head.result.mag mag_small) at c.magnification.ensures.value) (to_z-of_z w64 c.from-3.result dpi ∙ c.from-3.ensures) in
    (same, search rules)

pub returns-in-Some-clause-fit : goal.returns-in-Some-clause-fit
returns-in-Some-clause-fit c = record { usable = search rules; num = search rules; den = search rules; mag = search rules; dpi = search rules }

pub returns-in-None-clause-cause : goal.returns-in-None-clause-cause
returns-in-None-clause-cause c = λ d is.
    let num_small : FitsSigned w32 c.head-head.result.num = search rules in
    let den_small : FitsSigned w32 c.head-head.result.den = search rules in
    let num : FitsSigned w64 c.from.result = search rules in
    let den : FitsSigned w64 c.from-2.result = search rules in
    let mag_small : FitsSigned w32 c.head-head.result.mag = search rules in
    let mag : FitsSigned w64 c.magnification.result = search rules in
    let dpi : FitsSigned w64 c.from-3.result = search rules in
    let same = units_read c.one_document.ensures c.args.doc.now d (head_view c.head-head.result) c.args.mag c.args.dpi _ _ _ _ c.requires.read is c.head-head.ensures.value
    (to_z-of_z w64 c.from.result num ∙ c.from.ensures ∙ to_z-of_z w32 c.head-head.result.num num_small) (to_z-of_z w64 c.from-2.result den ∙ c.from-2.ensures ∙ to_z-of_z w32 c.head-head.result.den den_small)
    (to_z-of_z w64 c.magnification.result mag ∙ rw (to_z-of_z w32 c.head-head.result.mag mag_small) at c.magnification.ensures.value) (to_z-of_z w64 c.from-3.result dpi ∙ c.from-3.ensures) in
    (_, refl, same, search rules)
