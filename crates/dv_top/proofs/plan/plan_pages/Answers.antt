use Rattle.std.proofs.Common.{◌+◌, ◌-◌, take, drop, arith, refl, sym, subst, ◌∙◌}
use Rattle.vf_expand.specs.Grid.{Grid}
use Rattle.sections.specs.Used.{HasTaken}
use Rattle.dv_top.specs.Printing.{marks_of_each}
use Rattle.dv_top.specs.Selecting.{pages_at}
use Rattle.dv_top.specs.Writing.{IsWalkable, marks_in}
use Rattle.dv_top.proofs.Drafted.{drafted_next, many_marks}
use Rattle.dv_top.proofs.Lists.{at_place, take_all}
use Rattle.dv_top.proofs.PagesAt.{here, many_pages, pages_here, part_of}
use Rattle.dv_top.proofs.Planned.{ready_here, same_priced, taken_one, walkable_part}
use Rattle.dv_top.proofs.plan.plan_pages.Goals as goal

pub use_pages-requires-clause-walkable : goal.use_pages-requires-clause-walkable
use_pages-requires-clause-walkable c =
    let k = c.loop-index.index in
    subst (λ (g : Grid). IsWalkable c.args.doc.now (take (k + 1 - k) (drop k c.args.places.now)) g c.args.fonts.now) (sym c.loop-index.invariant.kept)
    (walkable_part c.one_document.ensures c.args.doc.now c.args.places.now c.args.walker.now.grid c.args.fonts.now k (k + 1 - k) c.requires.walkable)

pub take-requires-clause-next : goal.take-requires-clause-next
take-requires-clause-next c =
    let w = c.requires.walkable in
    let are = pages_here c.one_document.ensures c.args.doc.now w.read.0 c.args.places.now w.read w.read.1 w.within in
    let pages = pages_at w.read.0.pages c.args.places.now in
    let many = many_pages c.args.doc.now c.args.places.now pages are in
    let few = many_marks c.args.walker.now.grid c.args.fonts.now c.args.doc.now.fonts pages c.loop-index.index (omega (arith, many, c.loop-index-test.true)) in
    (c.args.draft.now.planning.budget, c.args.draft.now.planning.most, marks_of_each c.args.walker.now.grid c.args.fonts.now c.args.doc.now.fonts (take c.loop-index.index pages), c.loop-index.invariant.drafted pages are, omega (arith, few))

pub take-requires-clause-priced : goal.take-requires-clause-priced
take-requires-clause-priced c = same_priced c.args.fonts.now c.loop-index.usage c.use_pages.new.usage c.loop-index.invariant.priced c.use_pages.ensures.same

pub loop-index-preserved : goal.loop-index-preserved
loop-index-preserved c =
    let k = c.loop-index.index in
    let g = c.args.walker.now.grid in
    let set = c.args.fonts.now in
    let ds = c.args.doc.now.fonts in
    let inv = c.loop-index.invariant in
    record {
      drafted = λ pages are.
          let h = here c.args.doc.now c.args.places.now pages k _ are (at_place c.args.places.now k 0 c.loop-index-test.true) in
          let ready = ready_here c.args.doc.now c.args.places.now g set pages k _ h c.requires.walkable are in
          let part = part_of c.args.doc.now c.args.places.now pages k (k + 1 - k) are in
          let taken = subst (λ (x : Grid). HasTaken c.use_pages.new.usage (marks_in x set ds (take (k + 1 - k) (drop k pages)))) inv.kept (c.use_pages.ensures.taken _ part) in
          drafted_next g set ds c.args.draft.now.planning.budget c.args.draft.now.planning.most c.loop-index.draft c.take.new.self c.use_pages.new.usage _ pages k h.page ready.marks ready.state h.at ready.defined
          (let many = many_pages c.args.doc.now c.args.places.now pages are in omega (arith, many, c.loop-index-test.true)) refl (taken_one g set ds pages k h.page ready c.use_pages.new.usage h.at taken) c.take.ensures (inv.drafted pages are);
      priced = same_priced set c.loop-index.usage c.use_pages.new.usage inv.priced c.use_pages.ensures.same;
      kept = c.use_pages.ensures.kept ∙ inv.kept;
    }

pub returns-clause-drafted : goal.returns-clause-drafted
returns-clause-drafted c = λ pages are.
    let all = (let many = many_pages c.args.doc.now c.args.places.now pages are in take_all pages c.loop-index.index (omega (arith, many, c.loop-index-test.false))) in
    rw all at (c.loop-index.invariant.drafted pages are)
