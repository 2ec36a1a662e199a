use Rattle.std.proofs.Common.{arith, sym}
use Rattle.dv_top.proofs.Drafted.{drafted_all, drafted_refused}
use Rattle.dv_top.proofs.PagesAt.{many_pages}
use Rattle.dv_top.proofs.plan.plan_rest.Goals as goal

pub returns-then-is_refused-clause-drafted : goal.returns-then-is_refused-clause-drafted
returns-then-is_refused-clause-drafted c = λ pages are.
    drafted_refused c.args.walker.now.grid c.args.fonts.now c.args.doc.now.fonts c.args.draft.now.planning.budget c.args.draft.now.planning.most c.args.draft.now pages c.args.first (sym c.if-is_refused.ensures) (c.requires.drafted pages are)

pub returns-then-first-places-clause-drafted : goal.returns-then-first-places-clause-drafted
returns-then-first-places-clause-drafted c = λ pages are.
    drafted_all c.args.walker.now.grid c.args.fonts.now c.args.doc.now.fonts c.args.draft.now.planning.budget c.args.draft.now.planning.most c.args.draft.now pages c.args.first
    (let many = many_pages c.args.doc.now c.args.places.now pages are in omega (arith, many, c.if-first-places.true)) (c.requires.drafted pages are)
