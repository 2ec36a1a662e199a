-- What a job of dvips leaves.
use Rattle.std.specs.Prelude.{◌≡◌, ℕ, ◌⊎◌, List, [], Option, Some, None, length, Result, MatchResult}
use Rattle.dv_base.specs.Causes.{Rose}
use Rattle.dv_base.specs.Shelf.{Told}
use Rattle.dv_base.specs.Tray.{Seen}
use Rattle.dv_words.specs.Jobs.{PrintJob}
use Rattle.ps_emit.specs.Written.{counted}
use Rattle.dv_top.specs.Covered.{set_of}
use Rattle.dv_top.specs.Outputs.{LeavesLines, LeavesOutput, WroteFront}
use Rattle.dv_top.specs.Printable.{IsFront, Printable, Shows, owed_for, printout_for, text_for, warnings_for}
use Rattle.dv_top.specs.Printing.{plan_of}
use Rattle.dv_top.specs.Reasons as reasons
use Rattle.dv_top.specs.Reasons.{Holds, Reason}
use Rattle.dv_top.specs.declared.outcome.Outcome.{Outcome}
use Rattle.dv_top.specs.declared.outcome.Outcome.TheVariants as outcome
use Rattle.dv_top.specs.declared.print.Printout.{Printout}

-- How a job ends: the text was written whole; the output couldn't be written; memory was refused; or there is a reason.
pub data End (job : PrintJob) (told : Told) : Type 0 where
  Finished : End job told
  Unwritten : End job told
  Wanting : End job told
  Refused : (reason : Reason job told) → End job told

-- the outcome that tells of an end
abbrev pub Tells : (job : PrintJob) (told : Told) → End job told → Outcome → Type 0
Tells job told End.Finished o = o ≡ outcome.Done
Tells job told End.Unwritten o = o ≡ outcome.WriteFault
Tells job told End.Wanting o = o ≡ outcome.OutOfMemory
Tells job told (End.Refused reason) o = reasons.Tells job told reason o

-- No warning was said, or all of a job that can be printed.
abbrev pub WarnedOrSilent : (job : PrintJob) (told : Told) → List (List ℕ) → Type 0
WarnedOrSilent job told said = (said ≡ []) ⊎ ((p : Printable job told) × (said ≡ warnings_for p))

-- What an end means for the bytes of the output, which are none where none was begun, and for the lines that were said. A job that is
-- finished has said its warnings and written its whole text, and that shows what is owed and is economical. One that couldn't write could
-- have been printed, has said its warnings, and has written a front of its text or has begun nothing. Any other has begun nothing, for
-- want of memory or for its reason.
abbrev pub Means : (job : PrintJob) (told : Told) → Told → End job told → Option (List ℕ) → List (List ℕ) → Type 0
Means job told later End.Finished written said =
    (p : Printable job told) × (written ≡ Some (text_for p)) × (said ≡ warnings_for p) × Shows (text_for p) (printout_for p) (owed_for p)
Means job told later End.Unwritten written said =
    (p : Printable job told) × WroteFront (text_for p) (IsFront (text_for p) (printout_for p) (owed_for p)) written × (said ≡ warnings_for p)
Means job told later End.Wanting written said = (written ≡ None) × WarnedOrSilent job told said
Means job told later (End.Refused reason) written said = (written ≡ None) × (said ≡ []) × Holds job told later reason

-- the count of the tray's faults rose, where the output couldn't be written
abbrev pub RoseFor : (job : PrintJob) (told : Told) → End job told → Seen → Seen → Type 0
RoseFor job told End.Unwritten old new = Rose old.faults new.faults
RoseFor job told _ old new = Unit {0}

-- What a job leaves, by its outcome.
pub record Leaves (job : PrintJob) (told later : Told) (old new : Seen) (o : Outcome) : Type 0 where
  pub end : End job told
  pub tells : Tells job told end o
  pub written : Option (List ℕ)
  pub said : List (List ℕ)
  pub means : Means job told later end written said
  pub left : LeavesOutput job.output written old new
  pub lines : LeavesLines said old new
  pub rose : RoseFor job told end old new

-- The numbers of a text that was written: its pages, its sections, its bytes.
pub record IsCountOf (job : PrintJob) (told : Told) (p : Printable job told) (n : Printout) : Type 0 where
  pub pages : n.pages ≡ length p.pages
  pub sections : n.sections ≡ length (plan_of job (set_of p.covered) p.pages)
  pub bytes : n.bytes ≡ counted 0 (length (text_for p))

-- What a job that is finished leaves, with its numbers.
pub record Finishes (job : PrintJob) (told : Told) (old new : Seen) (n : Printout) : Type 0 where
  pub print : Printable job told
  pub shows : Shows (text_for print) (printout_for print) (owed_for print)
  pub left : LeavesOutput job.output (Some (text_for print)) old new
  pub lines : LeavesLines (warnings_for print) old new
  pub counts : IsCountOf job told print n

-- an end other than a finished job
abbrev pub IsUndone : {job : PrintJob} {told : Told} → End job told → Type 0
IsUndone End.Finished = ⊥
IsUndone _ = Unit {0}

-- What a job that isn't finished leaves.
pub record LeavesUndone (job : PrintJob) (told later : Told) (old new : Seen) (o : Outcome) : Type 0 where
  pub leaves : Leaves job told later old new o
  pub undone : IsUndone leaves.end

-- The same by what a function answers: the numbers, or the outcome of a job that isn't finished.
abbrev pub LeavesBy : (job : PrintJob) → Told → Told → Seen → Seen → Result Printout Outcome → Type 0
LeavesBy job told later old new result = MatchResult result (λ n. Finishes job told old new n) (λ o. LeavesUndone job told later old new o)
