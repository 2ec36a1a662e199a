use Rattle.ps_emit.proofs.Owed.{text_shows}
use Rattle.ps_emit.proofs.laws.text_shows.Goals as goal

pub returns : goal.returns
returns c = text_shows
