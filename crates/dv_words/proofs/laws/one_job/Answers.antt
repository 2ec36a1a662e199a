use Rattle.dv_words.proofs.Whole.{same_job}
use Rattle.dv_words.proofs.laws.one_job.Goals as goal

pub returns : goal.returns
returns c = same_job
