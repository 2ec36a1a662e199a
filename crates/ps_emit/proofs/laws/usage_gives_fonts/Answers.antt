use Rattle.ps_emit.proofs.Uses.{usage_gives_fonts}
use Rattle.ps_emit.proofs.laws.usage_gives_fonts.Goals as goal

pub returns : goal.returns
returns c = usage_gives_fonts
