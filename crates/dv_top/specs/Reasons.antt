-- Why a job isn't done: the reasons, the outcome that tells of each, and what each says of the words, the held files and the counts.
use Rattle.std.specs.Prelude.{◌≡◌, ◌<◌, ◌+◌, ℕ, ◌⊎◌, List, Some, length, slice_get}
use Rattle.std.specs.List.{Contains}
use Rattle.dv_base.specs.Shelf.{Told}
use Rattle.dv_base.specs.UnitPixels.{IsUsable}
use Rattle.dv_base.specs.declared.units.Units.{Units}
use Rattle.positions.specs.Mark.{Mark}
use Rattle.positions.specs.declared.canvas.NoFault.{NoFault}
use Rattle.dvi_doc.specs.Document.{Document}
use Rattle.dvi_doc.specs.declared.fault.DocFault.{DocFault}
use Rattle.dv_words.specs.Jobs.{PrintJob}
use Rattle.dv_words.specs.declared.selection.SelectFault.{SelectFault}
use Rattle.font_set.specs.Fonts.{FontSet}
use Rattle.font_set.specs.LoadFaults.{LoadFaultIs}
use Rattle.font_set.specs.declared.fault.LoadFault.{LoadFault}
use Rattle.vf_expand.specs.declared.fault.WalkFault.{WalkFault}
use Rattle.sections.specs.Cost.{marks_cost}
use Rattle.dv_top.specs.Checking.{StopsIn}
use Rattle.dv_top.specs.Covered.{Covered, Marked, chosen_marks, doc_of, printed_marks, set_of}
use Rattle.dv_top.specs.Headers.{header_names}
use Rattle.dv_top.specs.Printing.{chosen, grid_of, request_of, units_across, units_down}
use Rattle.dv_top.specs.Reading.{Input, IsNoDocument, Source, Unread, UnreadHolds, UnreadTells, most_input}
use Rattle.dv_top.specs.Selecting.{IsNoChoice, SelectTells}
use Rattle.dv_top.specs.Sources.{InSomePage, Selected, Sources, frame_of}
use Rattle.dv_top.specs.Tells.{LoadTells, WalkTells}
use Rattle.dv_top.specs.declared.outcome.Outcome.{Outcome}
use Rattle.dv_top.specs.declared.outcome.Outcome.TheVariants as outcome

-- how many headers there may be, and how many bytes each may have
abbrev pub most_headers : ℕ
most_headers = 64

abbrev pub most_header : ℕ
most_header = 4194304

-- The page of this number, counted from 1, costs by itself what it needs, which is more than the budget has.
pub record IsTooBig (set : FontSet) (budget : ℕ) (pages : List (List Mark)) (page need have : ℕ) : Type 0 where
  pub before : ℕ
  pub counted : page ≡ before + 1
  pub marks : List Mark
  pub at : slice_get pages before ≡ Some marks
  pub costs : need ≡ marks_cost set marks
  pub has : have ≡ budget
  pub above : have < need

-- A job's input was not read; its bytes are no document; the pages that it asks for aren't there, or too many; the document's units turn
-- into no pixels; the fonts of a page can't be had; a page can't be walked over; there are too many headers; a header was not read; a page
-- costs a printer too much.
pub data Reason (job : PrintJob) (told : Told) : Type 0 where
  NoInput : (why : Unread) → Reason job told
  NoDocument : (input : Input job.input told) (kind : DocFault) → Reason job told
  NoPages : (source : Source job.input told) (fault : SelectFault) → Reason job told
  NoPixels : (selected : Selected job told) (units : Units) → Reason job told
  NoFonts : (sources : Sources job told) (fault : LoadFault) → Reason job told
  NoMarks : (covered : Covered job told) (fault : WalkFault NoFault) → Reason job told
  ManyHeaders : (marked : Marked job told) → Reason job told
  NoHeader : (marked : Marked job told) (name : List ℕ) (why : Unread) → Reason job told
  NoRoom : (marked : Marked job told) (page need have : ℕ) → Reason job told

-- the outcome that tells of a reason
abbrev pub Tells : (job : PrintJob) (told : Told) → Reason job told → Outcome → Type 0
Tells job told (Reason.NoInput why) o = UnreadTells job.input why o
Tells job told (Reason.NoDocument input kind) o = o ≡ outcome.BadDvi kind
Tells job told (Reason.NoPages source fault) o = SelectTells fault o
Tells job told (Reason.NoPixels selected units) o = o ≡ outcome.BadConv units
Tells job told (Reason.NoFonts sources fault) o = LoadTells sources.set fault o
Tells job told (Reason.NoMarks covered fault) o = WalkTells covered.sources.set fault o
Tells job told (Reason.ManyHeaders marked) o = o ≡ outcome.TooManyHeaders
Tells job told (Reason.NoHeader marked name why) o = UnreadTells name why o
Tells job told (Reason.NoRoom marked page need have) o = o ≡ outcome.PageTooBig page need have

-- Units of the document, across or down, that turn into no pixels; those down only where those across do.
abbrev pub IsUnusable : Document → PrintJob → Units → Type 0
IsUnusable doc job units =
    ((units ≡ units_across doc job) × (IsUsable units → ⊥)) ⊎ (IsUsable (units_across doc job) × (units ≡ units_down doc job) × (IsUsable units → ⊥))

-- the names of the job's headers
abbrev pub names_for : {job : PrintJob} {told : Told} → Covered job told → List (List ℕ)
names_for {job} c = header_names job.headers (chosen_marks c)

-- What a reason says, where the shelf told the one before the run and the other after it.
abbrev pub Holds : (job : PrintJob) (told : Told) → Told → Reason job told → Type 0
Holds job told later (Reason.NoInput why) = UnreadHolds job.input most_input told later why
Holds job told later (Reason.NoDocument input kind) = IsNoDocument input.bytes kind
Holds job told later (Reason.NoPages source fault) = IsNoChoice source.doc (request_of job) fault
Holds job told later (Reason.NoPixels s units) = IsUnusable s.source.doc job units
Holds job told later (Reason.NoFonts s fault) =
    InSomePage (chosen s.selected.source.doc job) (λ p. LoadFaultIs s.set (frame_of s.selected.source.doc.fonts p) told later fault)
Holds job told later (Reason.NoMarks c fault) = StopsIn (grid_of (doc_of c) job) (set_of c) (doc_of c).fonts (chosen (doc_of c) job) fault
Holds job told later (Reason.ManyHeaders m) = most_headers < length (names_for m.covered)
Holds job told later (Reason.NoHeader m name why) = Contains (names_for m.covered) name × UnreadHolds name most_header told later why
Holds job told later (Reason.NoRoom m page need have) = IsTooBig (set_of m.covered) job.memory (printed_marks m.covered) page need have

-- The job isn't done: memory was refused, or there is a reason, of which the outcome tells.
abbrev pub Refuses : (job : PrintJob) (told : Told) → Told → Outcome → Type 0
Refuses job told later o = (o ≡ outcome.OutOfMemory) ⊎ ((r : Reason job told) × Tells job told r o × Holds job told later r)
