use Rattle.ps_emit.proofs.Good.{text_is_good}
use Rattle.ps_emit.proofs.laws.text_is_good.Goals as goal

pub returns : goal.returns
returns c = text_is_good
