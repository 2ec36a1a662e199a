use Rattle.std.proofs.Common.{rules}
use Rattle.vf_expand.proofs.Passing.{past_passed}
use Rattle.dvitype_list.proofs.Turning.{grid_of}
use Rattle.dvitype_list.proofs.moves.past_rule.Goals as goal

pub returns-clause-large : goal.returns-clause-large
returns-clause-large c = past_passed c.advance.result (grid_of c.args.conv.now) c.args.pos.now c.args.b (search rules)
