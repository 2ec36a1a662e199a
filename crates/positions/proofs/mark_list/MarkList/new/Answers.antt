use Rattle.std.proofs.Common.{ap, ◌∙◌}
use Rattle.positions.specs.MarkList.{marks_of}
use Rattle.positions.proofs.Lists.{marks_of-none}
use Rattle.positions.proofs.mark_list.MarkList.new.Goals as goal

pub returns : goal.returns
returns c = ap marks_of c.new.ensures.items ∙ marks_of-none
