use Rattle.std.proofs.Common.{List, Bool, subst}
use Rattle.font_set.specs.Found.{IsMarked}
use Rattle.font_set.specs.Marks.{padded}
use Rattle.font_set.proofs.Padding.{padded_none}
use Rattle.font_set.proofs.agenda.Agenda.new.Goals as goal

pub returns-clause-none : goal.returns-clause-none
returns-clause-none c = λ m h. padded_none m (subst (λ (vs : List Bool). IsMarked (padded vs) m) c.new-met.ensures.items h)
