-- What can be printed is printed.
use Rattle.std.specs.Prelude.{◌≡◌, ◌≤◌, ◌^◌, ℕ, List, length, Some}
use Rattle.dv_base.specs.Causes.{Rose}
use Rattle.dv_base.specs.Shelf.{Contents, Told}
use Rattle.dv_base.specs.Tray.{Seen}
use Rattle.dv_base.specs.UnitPixels.{IsUsable}
use Rattle.dv_base.specs.declared.units.Units.{Units}
use Rattle.positions.specs.Mark.{Mark}
use Rattle.dvi_ops.specs.Command.{Definition}
use Rattle.dvi_doc.specs.Document.{Document, PageOf}
use Rattle.dvi_doc.specs.Grammar.{IsDoc}
use Rattle.dv_words.specs.Jobs.{PrintJob}
use Rattle.dv_words.specs.Jobs.Job.{Printing}
use Rattle.dv_words.specs.Words.{Asks}
use Rattle.font_set.specs.Alike.{AreRight}
use Rattle.font_set.specs.Fonts.{FontSet, raster_bytes}
use Rattle.font_set.specs.declared.want.Want.TheVariants as wants
use Rattle.vf_expand.specs.Page.{IsShallowPage, pages_count}
use Rattle.sections.specs.Cost.{marks_cost}
use Rattle.dv_top.specs.Covered.{CoversPages}
use Rattle.dv_top.specs.Each.{Each}
use Rattle.dv_top.specs.Headers.{header_names}
use Rattle.dv_top.specs.Printing.{IsMarked, chosen, grid_of, marks_of_each, most_steps, printed, request_of, units_across, units_down}
use Rattle.dv_top.specs.Reading.{most_input}
use Rattle.dv_top.specs.Reasons.{most_header, most_headers}
use Rattle.dv_top.specs.Selecting.{IsChoice}
use Rattle.dv_top.specs.declared.outcome.Outcome.{Outcome}
use Rattle.dv_top.specs.declared.outcome.Outcome.TheVariants as outcome

-- Fonts from held files that serve pages: each that is loaded is what the files of its key tell, so its files are there, are right, and
-- are within their limits; the fonts cover the pages, so each character that is set has a width, and its packet or its bitmap within the
-- limit; they are at most 1,000, and their bitmaps at most 1,073,741,824 bytes.
pub record Serve (contents : Contents) (units : Units) (ds : List Definition) (pages : List PageOf) (fonts : FontSet) : Type 0 where
  pub same : fonts.units ≡ units
  pub wanted : fonts.want ≡ wants.Rasters
  pub right : AreRight contents fonts
  pub covers : CoversPages fonts ds pages
  pub few : length fonts.fonts ≤ 1000
  pub room : raster_bytes fonts.fonts ≤ 2 ^ 30

-- The file of this name is held, and has at most so many bytes.
pub record IsHeldWithin (contents : Contents) (limit : ℕ) (name : List ℕ) : Type 0 where
  pub bytes : List ℕ
  pub held : contents name ≡ Some bytes
  pub few : length bytes ≤ limit

-- The marks of each of these pages, with these fonts.
abbrev pub marks_with : Document → PrintJob → FontSet → List PageOf → List (List Mark)
marks_with doc job fonts pages = marks_of_each (grid_of doc job) fonts doc.fonts pages

-- the names of the job's headers, where the pages have these fonts
abbrev pub headers_with : Document → PrintJob → FontSet → List (List ℕ)
headers_with doc job fonts = header_names job.headers (marks_with doc job fonts (chosen doc job))

-- A job that is known to be printable: its input is held and is a document, which has the pages that are asked for, and whose units are
-- usable; fonts from held files serve the chosen pages; with them the marks of these pages are defined, no push is too deep, and the
-- commands are not too many; the headers are not too many, and are held within their limit; and each printed page is within the budget.
pub record Plain (job : PrintJob) (told : Told) : Type 0 where
  pub contents : Contents
  pub tells : told.held ≡ Some contents
  pub bytes : List ℕ
  pub held : contents job.input ≡ Some bytes
  pub few : length bytes ≤ most_input
  pub doc : Document
  pub is : IsDoc bytes doc
  pub choice : IsChoice doc (request_of job)
  pub usable : IsUsable (units_across doc job)
  pub usable_down : IsUsable (units_down doc job)
  pub fonts : FontSet
  pub serve : Serve contents (units_across doc job) doc.fonts (chosen doc job) fonts
  pub marked : Each (IsMarked (grid_of doc job) fonts doc.fonts) (chosen doc job)
  pub shallow : Each (λ p. IsShallowPage (grid_of doc job) fonts doc.fonts p.commands) (chosen doc job)
  pub steps : pages_count fonts doc.fonts (chosen doc job) ≤ most_steps
  pub few_headers : length (headers_with doc job fonts) ≤ most_headers
  pub headers : Each (IsHeldWithin contents most_header) (headers_with doc job fonts)
  pub light : Each (λ ms. marks_cost fonts ms ≤ job.memory) (marks_with doc job fonts (printed doc job))

-- all went well, or memory was refused
abbrev pub IsDoneOrRefused : Outcome → Type 0
IsDoneOrRefused outcome.Done = Unit {0}
IsDoneOrRefused outcome.OutOfMemory = Unit {0}
IsDoneOrRefused _ = ⊥

-- What can be printed is printed, where neither the shelf nor the tray has a fault and memory is given.
abbrev pub PrintsAll : List (List ℕ) → Told → Told → Seen → Seen → Outcome → Type 0
PrintsAll words told later old new o =
    (job : PrintJob) → Asks words (Printing job) → Plain job told → (Rose told.faults later.faults → ⊥) → (Rose old.faults new.faults → ⊥) → IsDoneOrRefused o
