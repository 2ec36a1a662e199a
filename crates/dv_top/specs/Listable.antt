-- A job of dvitype whose document can be listed, and its listing.
use Rattle.std.specs.Prelude.{◌≡◌, ◌++◌, ℕ, List, Some, None, false, nat_eq}
use Rattle.dv_base.specs.Shelf.{Told}
use Rattle.dv_base.specs.UnitPixels.{IsUsable, pixels_of_one}
use Rattle.dv_base.specs.declared.units.Units.{Units}
use Rattle.dvi_ops.specs.Placed.{Placed}
use Rattle.dvi_doc.specs.Document.{Document}
use Rattle.dv_words.specs.Jobs.{ListJob}
use Rattle.dv_words.specs.declared.pages.Parity.TheVariants as parity
use Rattle.dv_words.specs.declared.pages.Windows.TheVariants as windows
use Rattle.font_set.specs.Fonts.{FontSet}
use Rattle.font_set.specs.declared.want.Want.TheVariants as wants
use Rattle.dvitype_list.specs.Causes.{IsStop}
use Rattle.dvitype_list.specs.Leaves.{AreOfFiles}
use Rattle.dvitype_list.specs.Listing.{Run, listing, magnification_of}
use Rattle.dvitype_list.specs.Listing.Course.{Ends, Stops}
use Rattle.dvitype_list.specs.Standing.{Setting, Standing}
use Rattle.dvitype_list.specs.Widths.{setting}
use Rattle.dvitype_list.specs.declared.fault.ListFault.{ListFault}
use Rattle.dv_top.specs.Reading.{Source}
use Rattle.dv_top.specs.Scaled.{units_of}
use Rattle.dv_top.specs.Selecting.{IsChoice, Request, places_of}

-- what a job asks of the pages: those from the start on, at most so many
abbrev pub listed_request : ListJob → Request
listed_request job = record { windows = windows.One job.start None false; parity = parity.All; limit = Some job.most; reversed = false; collated = 1 }

-- the units of the document
abbrev pub listed_units : Document → ListJob → Units
listed_units doc job = units_of doc job.mag job.dpi

-- what the commands of the document are judged by, with these fonts
abbrev pub setting_with : Document → ListJob → FontSet → Setting
setting_with doc job set = setting (pixels_of_one (listed_units doc job)) doc.fonts set

-- The listing of the chosen pages, with these fonts.
abbrev pub listing_with : Document → ListJob → FontSet → Run
listing_with doc job set = listing (setting_with doc job set) (nat_eq job.detail 1) doc (magnification_of doc.head job.mag) (places_of doc (listed_request job))

-- The pages that the job asks for are there.
pub record Selected (job : ListJob) (told : Told) : Type 0 where
  pub source : Source job.input told
  pub choice : IsChoice source.doc (listed_request job)

-- The document's units turn into pixels, and fonts have their widths from the TFM files of the shelf, where it tells these.
pub record Listable (job : ListJob) (told : Told) : Type 0 where
  pub selected : Selected job told
  pub usable : IsUsable (listed_units selected.source.doc job)
  pub set : FontSet
  pub units : set.units ≡ listed_units selected.source.doc job
  pub wanted : set.want ≡ wants.Widths
  pub files : AreOfFiles told.held set

module _ {job : ListJob} {told : Told} where
  -- its listing
  abbrev pub listing_for : Listable job told → Run
  listing_for l = listing_with l.selected.source.doc job l.set

-- all commands can be run
pub record IsWhole (r : Run) : Type 0 where
  pub standing : Standing
  pub ends : r.course ≡ Ends standing

-- Before this command the listing ends, since the fault stands at it; the shelf told the one before the run and the other after it.
pub record EndsAt {job : ListJob} {told : Told} (l : Listable job told) (later : Told) (fault : ListFault) : Type 0 where
  pub command : Placed
  pub standing : Standing
  pub stops : (listing_for l).course ≡ Stops command standing
  pub why : IsStop (setting_with l.selected.source.doc job l.set) l.set told later command standing fault

-- a front of the text
pub record IsFrontOf (text written : List ℕ) : Type 0 where
  pub missing : List ℕ
  pub splits : text ≡ written ++ missing
