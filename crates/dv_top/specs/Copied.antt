-- What a job of dvicopy leaves.
use Rattle.std.specs.Prelude.{◌≡◌, ◌<◌, ◌⊎◌, ℕ, List, [], Option, Some, None, length, Result, MatchResult}
use Rattle.dv_base.specs.Causes.{Rose}
use Rattle.dv_base.specs.Shelf.{Told}
use Rattle.dv_base.specs.Tray.{Seen}
use Rattle.dv_words.specs.Jobs.{CopyJob}
use Rattle.dv_top.specs.CopyReasons as reasons
use Rattle.dv_top.specs.CopyReasons.{Holds, Reason}
use Rattle.dv_top.specs.Copyable.{Copyable, IsCopy, IsFront, Walkable, copy_for, longest_copy, warnings_for}
use Rattle.dv_top.specs.Outputs.{LeavesLines, LeavesOutput, WroteFront}
use Rattle.dv_top.specs.declared.outcome.Outcome.{Outcome}
use Rattle.dv_top.specs.declared.outcome.Outcome.TheVariants as outcome

-- How a job ends: the copy was written whole; the output couldn't be written; memory was refused; the copy would be too long; or there is a
-- reason.
pub data End (job : CopyJob) (told : Told) : Type 0 where
  Finished : End job told
  Unwritten : End job told
  Wanting : End job told
  TooLong : End job told
  Refused : (reason : Reason job told) → End job told

-- the outcome that tells of an end
abbrev pub Tells : (job : CopyJob) (told : Told) → End job told → Outcome → Type 0
Tells job told End.Finished o = o ≡ outcome.Done
Tells job told End.Unwritten o = o ≡ outcome.WriteFault
Tells job told End.Wanting o = o ≡ outcome.OutOfMemory
Tells job told End.TooLong o = o ≡ outcome.CopyTooLong
Tells job told (End.Refused reason) o = reasons.Tells job told reason o

-- No warning was said, or all of a document whose pages were walked over.
abbrev pub WarnedOrSilent : (job : CopyJob) (told : Told) → List (List ℕ) → Type 0
WarnedOrSilent job told said = (said ≡ []) ⊎ ((w : Walkable job told) × (said ≡ warnings_for w))

-- What an end means for the bytes of the output, which are none where none was begun, and for the lines that were said. A job that is
-- finished has said its warnings and written the whole copy. One that couldn't write could have been copied, has said its warnings, and has
-- written a front of the copy or has begun nothing. One whose copy is too long has said its warnings and begun nothing. Any other has begun
-- nothing, for want of memory or for its reason.
abbrev pub Means : (job : CopyJob) (told : Told) → Told → End job told → Option (List ℕ) → List (List ℕ) → Type 0
Means job told later End.Finished written said =
    (c : Copyable job told) × (written ≡ Some (copy_for c.walkable)) × (said ≡ warnings_for c.walkable) × IsCopy c.walkable (copy_for c.walkable)
Means job told later End.Unwritten written said =
    (c : Copyable job told) × WroteFront (copy_for c.walkable) (IsFront c.walkable) written × (said ≡ warnings_for c.walkable) × IsCopy c.walkable (copy_for c.walkable)
Means job told later End.Wanting written said = (written ≡ None) × WarnedOrSilent job told said
Means job told later End.TooLong written said =
    (w : Walkable job told) × (longest_copy < length (copy_for w)) × (written ≡ None) × (said ≡ warnings_for w)
Means job told later (End.Refused reason) written said = (written ≡ None) × (said ≡ []) × Holds job told later reason

-- the count of the tray's faults rose, where the output couldn't be written
abbrev pub RoseFor : (job : CopyJob) (told : Told) → End job told → Seen → Seen → Type 0
RoseFor job told End.Unwritten old new = Rose old.faults new.faults
RoseFor job told _ old new = Unit {0}

-- What a job leaves, by its outcome.
pub record Leaves (job : CopyJob) (told later : Told) (old new : Seen) (o : Outcome) : Type 0 where
  pub end : End job told
  pub tells : Tells job told end o
  pub written : Option (List ℕ)
  pub said : List (List ℕ)
  pub means : Means job told later end written said
  pub left : LeavesOutput job.output written old new
  pub lines : LeavesLines said old new
  pub rose : RoseFor job told end old new

-- The same by what a function answers: done, or the outcome of a job that isn't.
abbrev pub LeavesBy : {A : Type 0} → (job : CopyJob) → Told → Told → Seen → Seen → Result A Outcome → Type 0
LeavesBy job told later old new result = MatchResult result (λ done. Leaves job told later old new outcome.Done) (λ o. Leaves job told later old new o)
