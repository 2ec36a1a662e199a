use Rattle.font_set.proofs.Later.{covers_later}
use Rattle.font_set.proofs.laws.covers_later.Goals as goal

pub returns : goal.returns
returns c = covers_later
