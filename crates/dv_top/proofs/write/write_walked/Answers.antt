use Rattle.std.proofs.Common.{sym, subst}
use Rattle.vf_expand.specs.Grid.{Grid}
use Rattle.sections.specs.Used.{HasTaken}
use Rattle.dv_top.specs.Writing.{IsWalkable, marks_in}
use Rattle.dv_top.proofs.WrittenPages.{grid_said}
use Rattle.dv_top.proofs.write.write_walked.Goals as goal

pub write_section-requires-clause-walkable : goal.write_section-requires-clause-walkable
write_section-requires-clause-walkable g c = subst (λ (h : Grid). IsWalkable c.args.doc.now c.args.places.now h c.args.fonts.now) (sym c.use_pages.ensures.kept) c.requires.walkable

pub write_section-requires-clause-uses : goal.write_section-requires-clause-uses
write_section-requires-clause-uses g c = λ pages are.
    subst (λ (h : Grid). HasTaken c.use_pages.new.usage (marks_in h c.args.fonts.now c.args.doc.now.fonts pages)) (sym c.use_pages.ensures.kept) (c.use_pages.ensures.taken pages are)

pub returns-clause-writes : goal.returns-clause-writes
returns-clause-writes g c = λ pages are printed e.
    c.write_section.ensures.writes pages are printed (grid_said c.args.fonts.now c.args.doc.now.fonts c.args.first pages printed c.args.walker.now.grid _ (sym c.use_pages.ensures.kept) e)
