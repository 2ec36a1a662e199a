use Rattle.std.proofs.Common.{◌≤◌, ℕ, Option, List, Vec, Global, map, arith, refl, sym, subst, ◌∙◌}
use Rattle.std.proofs.lemmas.Result.{err_from_is_err_and}
use Rattle.std.specs.Prelude.{IsTrue}
use Rattle.dvi_doc.specs.Document.{PageOf}
use Rattle.font_set.specs.Fonts.{FontSet}
use Rattle.sections.specs.Cost.{marks_cost}
use Rattle.sections.specs.Planned.{UsesLast}
use Rattle.sections.specs.Sections.{is_few}
use Rattle.vf_expand.specs.Grid.{Grid}
use Rattle.dv_words.specs.JobView.{print_view}
use Rattle.dv_top.specs.Covered.{chosen_marks}
use Rattle.dv_top.specs.Each.{Each}
use Rattle.dv_top.specs.Planning.{AreLight, PlanFails}
use Rattle.dv_top.specs.Printing.{marks_of_each}
use Rattle.dv_top.specs.Selecting.{ArePages}
use Rattle.dv_top.specs.Spoken.{SaysAll}
use Rattle.dv_top.specs.Warnings.{warnings_of}
use Rattle.dv_top.proofs.Drafted.{drafted_own, same_sections}
use Rattle.dv_top.proofs.Ended.{refused_undone}
use Rattle.dv_top.proofs.PagesAt.{pages_here}
use Rattle.dv_top.proofs.ReadyJob.{outcome_of_plan, printable_here, writable_here}
use Rattle.dv_top.proofs.WrittenJob.{prints_leave}
use Rattle.dv_top.proofs.print.print_ready.Goals as goal

pub returns-in_err-plan-clause-leaves : goal.returns-in_err-plan-clause-leaves
returns-in_err-plan-clause-leaves g c = λ told later cov looked noted headed.
    let seen = g.T.Tray.seen in
    let p = err_from_is_err_and c.from_residual.result c.from_residual.ensures.1 in
    rw (p.1, p.2)
    (refused_undone (print_view c.args.job.now) told later (seen c.args.tray.now) c.in_err-plan.field-0.0
    (outcome_of_plan c.one_document.ensures cov c.args.doc.now c.args.places.now c.args.walker.now c.args.fonts.now c.requires.walkable looked later c.in_err-plan.field-0.0
    (λ pages are. subst (λ (b : ℕ). PlanFails c.args.fonts.now b (marks_of_each c.args.walker.now.grid c.args.fonts.now c.args.doc.now.fonts pages) c.in_err-plan.field-0.0) (c.requires.drafted pages are).budget_is (c.in_err-plan.ensures.cause pages are))))

pub returns-clause-leaves : goal.returns-clause-leaves
returns-clause-leaves g c = λ told later cov looked noted headed.
    let seen = g.T.Tray.seen in
    let job = print_view c.args.job.now in
    let a = seen c.args.tray.now in
    let b = seen c.warn.new.tray in
    let papers = c.paper.ensures.value job (chosen_marks cov) noted in
    let headers = map (λ (h : Vec ℕ Global). h.items) c.args.headers.items in
    let set = c.args.fonts.now in
    let light : (pages : List PageOf) → ArePages c.args.doc.now c.args.places.now pages → Each (λ ms. marks_cost set ms ≤ job.memory) (marks_of_each c.args.walker.now.grid set c.args.doc.now.fonts pages) =
    λ pages are. subst (λ (b : ℕ). AreLight set b (marks_of_each c.args.walker.now.grid set c.args.doc.now.fonts pages)) (c.requires.drafted pages are).budget_is (c.in_ok-plan.ensures.light pages are) in
    let p = printable_here c.one_document.ensures cov c.args.doc.now c.args.places.now c.args.walker.now c.args.fonts.now c.requires.walkable looked c.requires.few light c.setup.result _ papers c.setup.ensures headers headed in
    let can = writable_here c.one_document.ensures cov c.args.doc.now c.args.places.now c.args.walker.now c.args.fonts.now c.requires.walkable looked c.requires.few light c.setup.result _ papers c.setup.ensures headers headed _ _ refl refl refl
    c.plan.ensures.kept (λ pages are. c.in_ok-plan.ensures.plan pages are ∙ same_sections set job.memory job.per_section c.args.looked.draft _ _ (c.requires.drafted pages are)) in
    prints_leave p later a b (seen c.write.new.tray) c.write.result
    (subst (λ (set : FontSet). SaysAll (warnings_of job.quiet job.pass_ps set (chosen_marks cov)) a b) (sym looked.fonts) (c.warn.ensures job (chosen_marks cov) noted))
    (c.write.ensures.leaves told p can)

pub write-requires-clause-width : goal.write-requires-clause-width
write-requires-clause-width g c = let small = (c.paper.ensures.small (print_view c.args.job.now) c.requires.noted.0 c.requires.noted.1 c.requires.job.paper).0 in rw c.setup.ensures.width (omega (arith, small))

pub write-requires-clause-height : goal.write-requires-clause-height
write-requires-clause-height g c = let small = (c.paper.ensures.small (print_view c.args.job.now) c.requires.noted.0 c.requires.noted.1 c.requires.job.paper).1 in rw c.setup.ensures.height (omega (arith, small))

pub returns-clause-later : goal.returns-clause-later
returns-clause-later g c =
    let same = (c.warn.ensures (print_view c.args.job.now) c.requires.noted.0 c.requires.noted.1).faults_same in
    let later = c.write.ensures.later in
    omega (arith, same, later)

pub plan-requires-clause-drafted : goal.plan-requires-clause-drafted
plan-requires-clause-drafted g c = λ pages are. drafted_own c.args.fonts.now _ _ c.args.looked.draft _ (c.requires.drafted pages are)

pub plan-requires-clause-some : goal.plan-requires-clause-some
plan-requires-clause-some g c =
    let w = c.requires.walkable in
    let are = pages_here c.one_document.ensures c.args.doc.now w.read.0 c.args.places.now w.read w.read.1 w.within in
    subst (λ (m : Option ℕ). IsTrue (is_few m 1)) (sym (c.requires.drafted _ are).most_is) c.requires.job.per_section

pub write-requires-clause-last : goal.write-requires-clause-last
write-requires-clause-last g c = λ pages are.
    subst (λ (h : Grid). UsesLast c.in_ok-plan.last c.in_ok-plan.plan (marks_of_each h c.args.fonts.now c.args.doc.now.fonts pages)) (sym c.plan.ensures.kept) (c.in_ok-plan.ensures.last pages are)
