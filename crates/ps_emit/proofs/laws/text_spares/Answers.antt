use Rattle.ps_emit.proofs.Owed.{text_spares}
use Rattle.ps_emit.proofs.laws.text_spares.Goals as goal

pub returns : goal.returns
returns c = text_spares
