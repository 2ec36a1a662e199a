use Rattle.ps_subset.proofs.Economy.{economy_of_printout}
use Rattle.ps_subset.proofs.laws.economy_of_printout.Goals as goal

pub returns : goal.returns
returns c = economy_of_printout
