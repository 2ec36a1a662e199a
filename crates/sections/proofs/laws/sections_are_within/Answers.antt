use Rattle.sections.proofs.Within.{all_within}
use Rattle.sections.proofs.laws.sections_are_within.Goals as goal

pub returns : goal.returns
returns c = all_within
