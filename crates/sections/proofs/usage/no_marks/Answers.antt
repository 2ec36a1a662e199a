use Rattle.sections.proofs.Marking.{none_marked}
use Rattle.sections.proofs.usage.no_marks.Goals as goal

pub returns-clause-none : goal.returns-clause-none
returns-clause-none c = none_marked c.in_ok-marks.marks.items c.args.many (c.in_ok-marks.ensures.items_if_clones_equal (λ y e. e))
