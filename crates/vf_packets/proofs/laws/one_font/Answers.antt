use Rattle.vf_packets.proofs.OneFont.{one_font}
use Rattle.vf_packets.proofs.laws.one_font.Goals as goal

pub returns : goal.returns
returns c = one_font c.one_spelling.ensures
