use Rattle.std.proofs.Common.{sym, ◌∙◌}
use Rattle.dv_top.proofs.Drafted.{plan_fonts, plan_has, plan_many}
use Rattle.dv_top.proofs.PagesAt.{many_pages, pages_here}
use Rattle.dv_top.proofs.Planned.{each_many}
use Rattle.dv_top.proofs.plan.plan.Goals as goal

pub returns-clause-plan : goal.returns-clause-plan
returns-clause-plan c = λ pages are. c.finish.ensures.plan c.args.fonts.now c.args.draft.planning.budget c.args.draft.planning.most _ (c.in_ok-plan_rest.ensures.drafted pages are)

pub returns-clause-last : goal.returns-clause-last
returns-clause-last c = λ pages are. c.finish.ensures.last c.args.fonts.now c.args.draft.planning.budget c.args.draft.planning.most _ (c.in_ok-plan_rest.ensures.drafted pages are)

pub returns-clause-light : goal.returns-clause-light
returns-clause-light c = λ pages are. c.finish.ensures.light c.args.fonts.now c.args.draft.planning.budget c.args.draft.planning.most _ (c.in_ok-plan_rest.ensures.drafted pages are)

pub returns-clause-cause : goal.returns-clause-cause
returns-clause-cause c = λ pages are. c.finish.ensures.fails c.args.fonts.now c.args.draft.planning.budget c.args.draft.planning.most _ (c.in_ok-plan_rest.ensures.drafted pages are)

pub returns-clause-fonts : goal.returns-clause-fonts
returns-clause-fonts c =
    let w = c.requires.walkable in
    let are = pages_here c.one_document.ensures c.args.doc.now w.read.0 c.args.places.now w.read w.read.1 w.within in
    plan_fonts c.finish.result c.args.fonts.now (c.finish.ensures.priced c.args.fonts.now c.args.draft.planning.budget c.args.draft.planning.most _ (c.in_ok-plan_rest.ensures.drafted _ are))

pub returns-clause-sum : goal.returns-clause-sum
returns-clause-sum c =
    let w = c.requires.walkable in
    let are = pages_here c.one_document.ensures c.args.doc.now w.read.0 c.args.places.now w.read w.read.1 w.within in
    let drafted = c.in_ok-plan_rest.ensures.drafted _ are in
    let budget = c.args.draft.planning.budget in
    let most = c.args.draft.planning.most in
    plan_has c.finish.result c.args.fonts.now budget most _ _ c.requires.some (each_many c.args.walker.now.grid c.args.fonts.now c.args.doc.now.fonts _ ∙ sym (many_pages c.args.doc.now c.args.places.now _ are))
    (c.finish.ensures.plan c.args.fonts.now budget most _ drafted) (c.finish.ensures.light c.args.fonts.now budget most _ drafted)

pub returns-clause-few : goal.returns-clause-few
returns-clause-few c =
    let w = c.requires.walkable in
    let are = pages_here c.one_document.ensures c.args.doc.now w.read.0 c.args.places.now w.read w.read.1 w.within in
    let drafted = c.in_ok-plan_rest.ensures.drafted _ are in
    let budget = c.args.draft.planning.budget in
    let most = c.args.draft.planning.most in
    plan_many c.finish.result c.args.fonts.now budget most _ _ c.requires.some (each_many c.args.walker.now.grid c.args.fonts.now c.args.doc.now.fonts _ ∙ sym (many_pages c.args.doc.now c.args.places.now _ are))
    (c.finish.ensures.plan c.args.fonts.now budget most _ drafted) (c.finish.ensures.light c.args.fonts.now budget most _ drafted)
