use Rattle.ps_subset.proofs.Runs.{run_of_prefix}
use Rattle.ps_subset.proofs.laws.run_of_prefix.Goals as goal

pub returns : goal.returns
returns c = run_of_prefix
