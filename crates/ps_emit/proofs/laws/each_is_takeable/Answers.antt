use Rattle.ps_emit.proofs.Good.{each_is_takeable}
use Rattle.ps_emit.proofs.laws.each_is_takeable.Goals as goal

pub returns : goal.returns
returns c = each_is_takeable
