use Rattle.dvitype_list.proofs.Turning.{pop_tried}
use Rattle.dvitype_list.proofs.quick.pop.Goals as goal

pub returns : goal.returns
returns c = λ set s st h. pop_tried set s st c.args.state.now c.pop.new.self c.pop.result h c.pop.ensures.font c.pop.ensures.given c.pop.ensures.stays
