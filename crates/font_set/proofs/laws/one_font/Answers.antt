use Rattle.font_set.proofs.OneFont.{one_font}
use Rattle.font_set.proofs.laws.one_font.Goals as goal

pub returns : goal.returns
returns c = one_font c.one_font.ensures c.one_font-2.ensures
