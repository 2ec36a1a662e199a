use Rattle.std.proofs.Common.{map}
use Rattle.std.specs.String.{string_bytes}
use Rattle.dv_top.proofs.AskedCopies.{good_copy}
use Rattle.dv_top.proofs.AskedJobs.{good_job}
use Rattle.dv_top.proofs.AskedLists.{good_list_job}
use Rattle.dv_top.proofs.AskedSample.{sample_pages}
use Rattle.dv_top.proofs.WrittenJob.{finished_leaves}
use Rattle.dv_top.proofs.run.run_job.Goals as goal

pub print_job-requires : goal.print_job-requires
print_job-requires g c = record { job = good_job (map string_bytes c.args.words.now) _ (rw c.in-Print.is at c.requires.asked) }

pub list_job-requires : goal.list_job-requires
list_job-requires g c = record { job = good_list_job (map string_bytes c.args.words.now) _ (rw c.in-List.is at c.requires.asked) }

pub sample_job-requires : goal.sample_job-requires
sample_job-requires g c = sample_pages (map string_bytes c.args.words.now) _ (rw c.in-Sample.is at c.requires.asked)

pub returns-in-Ok-clause-leaves : goal.returns-in-Ok-clause-leaves
returns-in-Ok-clause-leaves g c = rw c.in-Print.is (finished_leaves _ _ _ _ _ _ c.in-Ok.ensures.leaves)

pub copy_job-requires : goal.copy_job-requires
copy_job-requires g c = record { job = good_copy (map string_bytes c.args.words.now) _ (rw c.in-Copy.is at c.requires.asked) }
