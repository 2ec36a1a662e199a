use Rattle.font_set.proofs.Expanding.{order_of_tree}
use Rattle.font_set.proofs.laws.order_of_tree.Goals as goal

pub returns : goal.returns
returns c = order_of_tree
