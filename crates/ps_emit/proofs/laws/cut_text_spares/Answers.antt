use Rattle.ps_emit.proofs.Owed.{cut_text_spares}
use Rattle.ps_emit.proofs.laws.cut_text_spares.Goals as goal

pub returns : goal.returns
returns c = cut_text_spares
