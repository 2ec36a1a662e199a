use Rattle.font_set.proofs.Refuted.{had}
use Rattle.font_set.proofs.laws.can_be_had.Goals as goal

pub returns : goal.returns
returns c = had c.one_font.ensures
