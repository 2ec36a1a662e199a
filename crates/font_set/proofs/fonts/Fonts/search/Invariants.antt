use Rattle.dv_base.specs.Shelf.{Keeps}
use Rattle.font_set.specs.Gains.{GainsFor}
use Rattle.font_set.specs.Found.{FoundAt, left_to_do}
use Rattle.font_set.proofs.fonts.Fonts.search.Given as goal

abbrev pub invariant-loop-place : goal.invariant-loop-place
invariant-loop-place g l =
    FoundAt l.sheet l.fn.self l.self l.agenda.met l.agenda.places
    × GainsFor (g.S.Shelf.told l.fn.shelf).held l.fn.self l.self l.sheet.page
    × Keeps (g.S.Shelf.told l.fn.shelf) (g.S.Shelf.told l.shelf)

abbrev pub decreases-loop-place : goal.decreases-loop-place
decreases-loop-place g l = left_to_do l.agenda
