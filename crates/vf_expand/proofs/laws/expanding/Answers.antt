use Rattle.vf_expand.proofs.Expansion.{expanding}
use Rattle.vf_expand.proofs.laws.expanding.Goals as goal

pub returns : goal.returns
returns c = expanding
