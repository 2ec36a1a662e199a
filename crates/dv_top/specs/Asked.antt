-- What a job of dvips is that accepted words ask for.
use Rattle.std.specs.Prelude.{◌≡◌, ◌≤◌, ◌<◌, ◌^◌, unsigned_abs, true, IfSome, IsTrue}
use Rattle.std.specs.List.{list_all}
use Rattle.dv_words.specs.Jobs.{PrintJob}
use Rattle.ps_emit.specs.Laws.{is_visible}
use Rattle.sections.specs.Sections.{is_few}

-- The input's name is of visible characters; resolutions are from 10 to 10,000, copies and repetitions from 1 to 999; the
-- magnification, the drift, the paper and the offset are small; and a section may have a page.
pub record IsGoodJob (job : PrintJob) : Type 0 where
  pub visible : list_all is_visible job.input ≡ true
  pub across_low : 10 ≤ job.dpi.0
  pub across_high : job.dpi.0 ≤ 10000
  pub down_low : 10 ≤ job.dpi.1
  pub down_high : job.dpi.1 ≤ 10000
  pub mag : IfSome job.mag (λ m. m ≤ 100000)
  pub drift : job.drift ≤ 1000
  pub copies_some : 1 ≤ job.copies
  pub copies_few : job.copies ≤ 999
  pub collated : 1 ≤ job.collated
  pub per_section : IsTrue (is_few job.per_section 1)
  pub paper : IfSome job.paper (λ size. (unsigned_abs size.0 < 2 ^ 31) × (unsigned_abs size.1 < 2 ^ 31))
  pub offset_x : unsigned_abs job.offset.0 < 2 ^ 31
  pub offset_y : unsigned_abs job.offset.1 < 2 ^ 31
