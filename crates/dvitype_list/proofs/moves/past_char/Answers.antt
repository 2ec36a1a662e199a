use Rattle.std.proofs.Common.{rules}
use Rattle.vf_expand.proofs.Passing.{char_passed}
use Rattle.dvitype_list.proofs.Turning.{grid_of}
use Rattle.dvitype_list.proofs.moves.past_char.Goals as goal

pub returns-clause-large : goal.returns-clause-large
returns-clause-large c = char_passed c.advance.result (grid_of c.args.conv.now) c.args.pos.now c.args.width (search rules)
