use Rattle.font_set.proofs.Ids.{one_key}
use Rattle.font_set.proofs.laws.one_key.Goals as goal

pub returns : goal.returns
returns c = one_key
