use Rattle.vf_expand.proofs.Faultless.{faultless}
use Rattle.vf_expand.proofs.laws.marked_pages.Goals as goal

pub returns : goal.returns
returns c = faultless
