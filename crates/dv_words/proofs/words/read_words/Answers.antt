use Rattle.std.proofs.Common.{◌∙◌, sym, arith}
use Rattle.std.specs.String.{string_bytes}
use Rattle.dv_words.specs.JobView.{job_view}
use Rattle.dv_words.proofs.Whole.{fault_empty, fault_tool, fault_shift, fault_sample, asks_tool, asks_sample}
use Rattle.dv_words.proofs.words.read_words.Goals as goal

pub returns-then-is_empty-clause-fault : goal.returns-then-is_empty-clause-fault
returns-then-is_empty-clause-fault c = fault_empty string_bytes c.args.words.now (grind arith)

pub returns-in-Nothing-clause-fault : goal.returns-in-Nothing-clause-fault
returns-in-Nothing-clause-fault c =
    fault_tool string_bytes c.args.words.now c.index-words-0.result (grind arith) c.index-words-0.is (rw c.as_str.ensures.value at c.in-Nothing.ensures)

pub returns-in-Ok-clause-job : goal.returns-in-Ok-clause-job
returns-in-Ok-clause-job c =
    asks_sample string_bytes c.in-Ok.pages c.args.words.now c.index-words-0.result (grind arith) c.index-words-0.is (sym c.as_str.ensures.value ∙ c.in-Sample.ensures)
    (rw c.split_at.ensures.back at c.in-Ok.ensures.asks)

pub returns-in-Err-clause-fault : goal.returns-in-Err-clause-fault
returns-in-Err-clause-fault c =
    fault_sample string_bytes c.args.words.now c.index-words-0.result c.in-Err.index (grind arith) c.index-words-0.is (sym c.as_str.ensures.value ∙ c.in-Sample.ensures)
    (rw c.split_at.ensures.back at c.in-Err.ensures.cause)

pub returns-in-Ok-read_job-clause-job : goal.returns-in-Ok-read_job-clause-job
returns-in-Ok-read_job-clause-job c =
    asks_tool string_bytes c.in-Tool.tool (job_view c.in-Ok-read_job.job) c.args.words.now c.index-words-0.result (grind arith) c.index-words-0.is
    (sym c.as_str.ensures.value ∙ c.in-Tool.ensures) (rw c.split_at.ensures.back at c.in-Ok-read_job.ensures.job)

pub returns-in-Err-read_job-clause-fault : goal.returns-in-Err-read_job-clause-fault
returns-in-Err-read_job-clause-fault c =
    rw c.behind.ensures (fault_shift string_bytes c.in-Tool.tool c.args.words.now c.index-words-0.result c.in-Err-read_job.fault (grind arith) c.index-words-0.is
    (sym c.as_str.ensures.value ∙ c.in-Tool.ensures) (rw c.split_at.ensures.back at c.in-Err-read_job.ensures.cause))
