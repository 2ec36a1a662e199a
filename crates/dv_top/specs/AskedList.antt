-- What a job of dvitype is that accepted words ask for.
use Rattle.std.specs.Prelude.{◌≤◌, IfSome}
use Rattle.dv_words.specs.Jobs.{ListJob}

-- the resolution is at most 10,000, and the magnification 100,000
pub record IsGoodListJob (job : ListJob) : Type 0 where
  pub dpi : job.dpi ≤ 10000
  pub mag : IfSome job.mag (λ m. m ≤ 100000)
