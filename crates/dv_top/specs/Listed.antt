-- What a job of dvitype leaves.
use Rattle.std.specs.Prelude.{◌≡◌, ◌⊎◌, ℕ, List, [], Option, Some, None, Result, MatchResult, codes}
use Rattle.dv_base.specs.Causes.{Rose}
use Rattle.dv_base.specs.Shelf.{Told}
use Rattle.dv_base.specs.Tray.{Seen}
use Rattle.dv_words.specs.Jobs.{ListJob}
use Rattle.font_set.specs.Fonts.{FontSet}
use Rattle.vf_expand.specs.declared.fault.WalkFault.TheVariants as walk
use Rattle.dvitype_list.specs.declared.fault.ListFault.{ListFault}
use Rattle.dvitype_list.specs.declared.fault.ListFault.TheVariants as fault
use Rattle.dv_top.specs.Listable.{EndsAt, IsFrontOf, IsWhole, Listable, listing_for}
use Rattle.dv_top.specs.NotListed as reasons
use Rattle.dv_top.specs.NotListed.{Holds, Reason}
use Rattle.dv_top.specs.Outputs.{LeavesLines, LeavesOutput, WroteFront}
use Rattle.dv_top.specs.Tells.{LoadTells, WalkTells}
use Rattle.dv_top.specs.declared.outcome.Outcome.{Outcome}
use Rattle.dv_top.specs.declared.outcome.Outcome.TheVariants as outcome

-- The outcome that tells of a fault of a listing: that of the same fault of a page's fonts, or of its pushes and places.
abbrev pub FaultTells : FontSet → ListFault → Outcome → Type 0
FaultTells set (fault.Load f) o = LoadTells set f o
FaultTells set (fault.StackUnder x) o = WalkTells set (walk.StackUnder x) o
FaultTells set (fault.StackLeft x) o = WalkTells set (walk.StackLeft x) o
FaultTells set (fault.StackDeep x) o = WalkTells set (walk.StackDeep x) o
FaultTells set (fault.Overflow x) o = WalkTells set (walk.Overflow x) o
FaultTells set fault.WriteFault o = o ≡ outcome.WriteFault
FaultTells set fault.OutOfMemory o = o ≡ outcome.OutOfMemory

-- How a job ends: the listing was written whole; it ends early, at a fault of the document or of a font's file; the output couldn't be
-- written; memory was refused; or nothing was begun, for a reason.
pub data End (job : ListJob) (told : Told) : Type 0 where
  Finished : (list : Listable job told) → End job told
  Stopped : (list : Listable job told) (fault : ListFault) → End job told
  Unwritten : (list : Listable job told) → End job told
  Wanting : End job told
  Refused : (reason : Reason job told) → End job told

-- the outcome that tells of an end
abbrev pub Tells : (job : ListJob) (told : Told) → End job told → Outcome → Type 0
Tells job told (End.Finished l) o = o ≡ outcome.Done
Tells job told (End.Stopped l f) o = FaultTells l.set f o
Tells job told (End.Unwritten l) o = o ≡ outcome.WriteFault
Tells job told End.Wanting o = o ≡ outcome.OutOfMemory
Tells job told (End.Refused reason) o = reasons.Tells job told reason o

-- nothing was begun, or a front of the listing was written
abbrev pub WroteSome : {job : ListJob} {told : Told} → Listable job told → Option (List ℕ) → Type 0
WroteSome l written = WroteFront (listing_for l).text (IsFrontOf (listing_for l).text) written

-- What an end means for the bytes of the output, which are none where none was begun. A job that is finished has written the whole
-- listing of the chosen pages, in which no fault stands. One that stops has written the lines before the command at which its fault
-- stands. One that couldn't write, or had no memory, has written a front of the listing or has begun nothing. Any other has begun nothing,
-- for its reason.
abbrev pub Means : (job : ListJob) (told : Told) → Told → End job told → Option (List ℕ) → Type 0
Means job told later (End.Finished l) written = IsWhole (listing_for l) × (written ≡ Some (listing_for l).text)
Means job told later (End.Stopped l f) written = EndsAt l later f × (written ≡ Some (listing_for l).text)
Means job told later (End.Unwritten l) written = WroteSome l written
Means job told later End.Wanting written = (written ≡ None) ⊎ ((l : Listable job told) × WroteSome l written)
Means job told later (End.Refused reason) written = (written ≡ None) × Holds job told later reason

-- the count of the tray's faults rose, where the output couldn't be written
abbrev pub RoseFor : (job : ListJob) (told : Told) → End job told → Seen → Seen → Type 0
RoseFor job told (End.Unwritten l) old new = Rose old.faults new.faults
RoseFor job told _ old new = Unit {0}

-- What a job leaves, by its outcome. Nothing is said.
pub record Leaves (job : ListJob) (told later : Told) (old new : Seen) (o : Outcome) : Type 0 where
  pub end : End job told
  pub tells : Tells job told end o
  pub written : Option (List ℕ)
  pub means : Means job told later end written
  pub left : LeavesOutput (codes "-") written old new
  pub silent : LeavesLines [] old new
  pub rose : RoseFor job told end old new

-- The same by what a function answers: nothing where the job is done, else its outcome.
abbrev pub LeavesBy : {A : Type 0} → (job : ListJob) → Told → Told → Seen → Seen → Result A Outcome → Type 0
LeavesBy job told later old new result = MatchResult result (λ done. Leaves job told later old new outcome.Done) (λ o. Leaves job told later old new o)
