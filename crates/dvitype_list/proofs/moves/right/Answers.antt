use Rattle.std.proofs.Common.{rules}
use Rattle.vf_expand.proofs.Passing.{right_passed}
use Rattle.dvitype_list.proofs.Turning.{grid_of}
use Rattle.dvitype_list.proofs.moves.right.Goals as goal

pub returns-clause-large : goal.returns-clause-large
returns-clause-large c = right_passed c.right.result (grid_of c.args.conv.now) c.args.space c.args.pos.now c.args.q (search rules)
