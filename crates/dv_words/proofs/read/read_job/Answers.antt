use Rattle.std.proofs.Common.{sym}
use Rattle.std.specs.String.{string_bytes}
use Rattle.dv_words.specs.Stepping.{step}
use Rattle.dv_words.specs.Tools.{grammar}
use Rattle.dv_words.specs.Steps.{StepGives}
use Rattle.dv_words.specs.JobView.{job_view}
use Rattle.dv_words.specs.Views.{draft_view, state_of}
use Rattle.dv_words.specs.declared.step.Taken.TheVariants as taken
use Rattle.dv_words.proofs.Taking.{read_right, read_wrong, read_all, read_waiting, read_lacking}
use Rattle.dv_words.proofs.read.read_job.Goals as goal

pub returns-in-Ok-Wrong-clause-cause : goal.returns-in-Ok-Wrong-clause-cause
returns-in-Ok-Wrong-clause-cause c =
    let h : StepGives (step (grammar c.args.tool) (state_of c.loop-index.waits (draft_view c.loop-index.draft)) (string_bytes c.index-words-index.result)) taken.Wrong (draft_view c.take.new.self) =
    rw (← c.as_str.ensures.value) (rw c.in-Ok-Wrong.field-0-is at c.in-Ok-Wrong.ensures) in
    read_wrong c.args.tool string_bytes c.args.words.now c.loop-index.index c.index-words-index.result c.loop-index.waits (draft_view c.loop-index.draft)
    c.loop-index-test.true c.index-words-index.is c.loop-index.invariant (draft_view c.take.new.self) h

pub loop-index-preserved : goal.loop-index-preserved
loop-index-preserved c =
    let h : StepGives (step (grammar c.args.tool) (state_of c.loop-index.waits (draft_view c.loop-index.draft)) (string_bytes c.index-words-index.result)) (taken.Right c.in-Ok-Right.next) (draft_view c.take.new.self) =
    rw (← c.as_str.ensures.value) (rw c.in-Ok-Right.field-0-is at c.in-Ok-Right.ensures) in
    read_right c.args.tool string_bytes c.args.words.now c.loop-index.index c.index-words-index.result c.loop-index.waits (draft_view c.loop-index.draft)
    c.loop-index-test.true c.index-words-index.is c.loop-index.invariant (draft_view c.take.new.self) c.in-Ok-Right.next h

pub returns-then-is_some-clause-cause : goal.returns-then-is_some-clause-cause
returns-then-is_some-clause-cause c =
    read_waiting c.args.tool string_bytes c.args.words.now c.loop-index.index (draft_view c.loop-index.draft) c.loop-index-test.false c.loop-index.waits c.loop-index.invariant
    (sym c.if-is_some.ensures)

pub returns-in-None-clause-cause : goal.returns-in-None-clause-cause
returns-in-None-clause-cause c =
    read_lacking c.args.tool string_bytes c.args.words.now c.loop-index.index (draft_view c.loop-index.draft) c.loop-index-test.false c.loop-index.waits c.loop-index.invariant
    (sym c.if-is_some.ensures) c.in-None.ensures

pub returns-in-Some-clause-job : goal.returns-in-Some-clause-job
returns-in-Some-clause-job c =
    read_all c.args.tool string_bytes c.args.words.now c.loop-index.index (draft_view c.loop-index.draft) c.loop-index-test.false c.loop-index.waits (job_view c.in-Some.job)
    c.loop-index.invariant (sym c.if-is_some.ensures) c.in-Some.ensures
