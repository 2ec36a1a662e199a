-- Why a document isn't copied: the reasons, the outcome that tells of each, and what each says of the words, the held files and the counts.
use Rattle.std.specs.Prelude.{◌≡◌, ◌⊎◌}
use Rattle.dv_base.specs.Shelf.{Told}
use Rattle.dv_base.specs.UnitPixels.{IsUsable}
use Rattle.positions.specs.declared.canvas.NoFault.{NoFault}
use Rattle.dvi_doc.specs.declared.fault.DocFault.{DocFault}
use Rattle.dv_words.specs.Jobs.{CopyJob}
use Rattle.dv_words.specs.declared.selection.SelectFault.{SelectFault}
use Rattle.font_set.specs.LoadFaults.{LoadFaultIs}
use Rattle.font_set.specs.declared.fault.LoadFault.{LoadFault}
use Rattle.vf_expand.specs.declared.fault.WalkFault.{WalkFault}
use Rattle.dv_top.specs.Checking.{StopsIn}
use Rattle.dv_top.specs.Copying.{asked_of, copy_grid, copy_units, picked}
use Rattle.dv_top.specs.Reading.{Input, IsNoDocument, Source, Unread, UnreadHolds, UnreadTells, most_input}
use Rattle.dv_top.specs.Selecting.{IsNoChoice, SelectTells}
use Rattle.dv_top.specs.Sources.{InSomePage, frame_of}
use Rattle.dv_top.specs.Tells.{LoadTells, WalkTells}
use Rattle.dv_top.specs.Wanted.{Covered, Supplied, Wanted, doc_of, set_of}
use Rattle.dv_top.specs.declared.outcome.Outcome.{Outcome}
use Rattle.dv_top.specs.declared.outcome.Outcome.TheVariants as outcome

-- A job's input was not read; its bytes are no document; the pages that it asks for aren't there, or too many; the document's units turn
-- into no pixels; the fonts of a page can't be had; a page can't be walked over.
pub data Reason (job : CopyJob) (told : Told) : Type 0 where
  NoInput : (why : Unread) → Reason job told
  NoDocument : (input : Input job.input told) (kind : DocFault) → Reason job told
  NoPages : (source : Source job.input told) (fault : SelectFault) → Reason job told
  NoPixels : (wanted : Wanted job told) → Reason job told
  NoFonts : (supplied : Supplied job told) (fault : LoadFault) → Reason job told
  NoMarks : (covered : Covered job told) (fault : WalkFault NoFault) → Reason job told

-- the outcome that tells of a reason
abbrev pub Tells : (job : CopyJob) (told : Told) → Reason job told → Outcome → Type 0
Tells job told (Reason.NoInput why) o = UnreadTells job.input why o
Tells job told (Reason.NoDocument input kind) o = o ≡ outcome.BadDvi kind
Tells job told (Reason.NoPages source fault) o = SelectTells fault o
Tells job told (Reason.NoPixels wanted) o = o ≡ outcome.BadConv (copy_units wanted.source.doc job)
Tells job told (Reason.NoFonts supplied fault) o = LoadTells supplied.set fault o
Tells job told (Reason.NoMarks covered fault) o = WalkTells (set_of covered) fault o

-- What a reason says, where the shelf told the one before the run and the other after it.
abbrev pub Holds : (job : CopyJob) (told : Told) → Told → Reason job told → Type 0
Holds job told later (Reason.NoInput why) = UnreadHolds job.input most_input told later why
Holds job told later (Reason.NoDocument input kind) = IsNoDocument input.bytes kind
Holds job told later (Reason.NoPages source fault) = IsNoChoice source.doc (asked_of job) fault
Holds job told later (Reason.NoPixels w) = IsUsable (copy_units w.source.doc job) → ⊥
Holds job told later (Reason.NoFonts s fault) =
    InSomePage (picked s.wanted.source.doc job) (λ p. LoadFaultIs s.set (frame_of s.wanted.source.doc.fonts p) told later fault)
Holds job told later (Reason.NoMarks c fault) = StopsIn (copy_grid (doc_of c) job) (set_of c) (doc_of c).fonts (picked (doc_of c) job) fault

-- The job isn't done: memory was refused, or there is a reason, of which the outcome tells.
abbrev pub Refuses : (job : CopyJob) (told : Told) → Told → Outcome → Type 0
Refuses job told later o = (o ≡ outcome.OutOfMemory) ⊎ ((r : Reason job told) × Tells job told r o × Holds job told later r)
