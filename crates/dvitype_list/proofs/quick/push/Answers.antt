use Rattle.dvitype_list.proofs.Turning.{push_tried}
use Rattle.dvitype_list.proofs.quick.push.Goals as goal

pub returns : goal.returns
returns c = λ set s st h. push_tried set s st c.args.state.now c.push.new.self c.push.result h c.push.ensures.pos c.push.ensures.font c.push.ensures.kept c.push.ensures.room
