use Rattle.vf_expand.proofs.TreeLaws.{tree_is}
use Rattle.vf_expand.proofs.laws.trees.Goals as goal

pub returns : goal.returns
returns c = tree_is
