-- Why no listing is begun: the reasons, the outcome that tells of each, and what each says of the words, the held files and the counts.
use Rattle.std.specs.Prelude.{◌≡◌, ◌⊎◌}
use Rattle.dv_base.specs.Shelf.{Told}
use Rattle.dv_base.specs.UnitPixels.{IsUsable}
use Rattle.dvi_doc.specs.declared.fault.DocFault.{DocFault}
use Rattle.dv_words.specs.Jobs.{ListJob}
use Rattle.dv_words.specs.declared.selection.SelectFault.{SelectFault}
use Rattle.dv_top.specs.Listable.{Selected, listed_request, listed_units}
use Rattle.dv_top.specs.Reading.{Input, IsNoDocument, Source, Unread, UnreadHolds, UnreadTells, most_input}
use Rattle.dv_top.specs.Selecting.{IsNoChoice, SelectTells}
use Rattle.dv_top.specs.declared.outcome.Outcome.{Outcome}
use Rattle.dv_top.specs.declared.outcome.Outcome.TheVariants as outcome

-- A job's input was not read; its bytes are no document; the pages that it asks for aren't there, or too many; the document's units turn
-- into no pixels.
pub data Reason (job : ListJob) (told : Told) : Type 0 where
  NoInput : (why : Unread) → Reason job told
  NoDocument : (input : Input job.input told) (kind : DocFault) → Reason job told
  NoPages : (source : Source job.input told) (fault : SelectFault) → Reason job told
  NoPixels : (selected : Selected job told) → Reason job told

-- the outcome that tells of a reason
abbrev pub Tells : (job : ListJob) (told : Told) → Reason job told → Outcome → Type 0
Tells job told (Reason.NoInput why) o = UnreadTells job.input why o
Tells job told (Reason.NoDocument input kind) o = o ≡ outcome.BadDvi kind
Tells job told (Reason.NoPages source fault) o = SelectTells fault o
Tells job told (Reason.NoPixels s) o = o ≡ outcome.BadConv (listed_units s.source.doc job)

-- What a reason says, where the shelf told the one before the run and the other after it.
abbrev pub Holds : (job : ListJob) (told : Told) → Told → Reason job told → Type 0
Holds job told later (Reason.NoInput why) = UnreadHolds job.input most_input told later why
Holds job told later (Reason.NoDocument input kind) = IsNoDocument input.bytes kind
Holds job told later (Reason.NoPages source fault) = IsNoChoice source.doc (listed_request job) fault
Holds job told later (Reason.NoPixels s) = IsUsable (listed_units s.source.doc job) → ⊥

-- Nothing is begun: memory was refused, or there is a reason, of which the outcome tells.
abbrev pub Refuses : (job : ListJob) (told : Told) → Told → Outcome → Type 0
Refuses job told later o = (o ≡ outcome.OutOfMemory) ⊎ ((r : Reason job told) × Tells job told r o × Holds job told later r)
