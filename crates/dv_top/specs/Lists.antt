-- What can be listed is listed.
use Rattle.std.specs.Prelude.{◌≡◌, ◌≤◌, ℕ, List, length, Some}
use Rattle.dv_base.specs.Causes.{Rose}
use Rattle.dv_base.specs.Shelf.{Contents, Told}
use Rattle.dv_base.specs.Tray.{Seen}
use Rattle.dv_base.specs.UnitPixels.{IsUsable}
use Rattle.dvi_doc.specs.Document.{Document}
use Rattle.dvi_doc.specs.Grammar.{IsDoc}
use Rattle.dv_words.specs.Jobs.{ListJob}
use Rattle.dv_words.specs.Jobs.Job.{Listing}
use Rattle.dv_words.specs.Words.{Asks}
use Rattle.font_set.specs.Alike.{AreRight}
use Rattle.font_set.specs.Fonts.{FontSet}
use Rattle.font_set.specs.declared.want.Want.TheVariants as wants
use Rattle.dv_top.specs.Completeness.{IsDoneOrRefused}
use Rattle.dv_top.specs.Listable.{IsWhole, listed_request, listed_units, listing_with}
use Rattle.dv_top.specs.Reading.{most_input}
use Rattle.dv_top.specs.Selecting.{IsChoice}
use Rattle.dv_top.specs.declared.outcome.Outcome.{Outcome}

-- A job that is known to be listable: its input is held and is a document, which has the pages that are asked for, and whose units are
-- usable; and with fonts of which each that is loaded is what its TFM file tells, which is held, right and within its limit, no fault stands
-- in the listing.
pub record Plain (job : ListJob) (told : Told) : Type 0 where
  pub contents : Contents
  pub tells : told.held ≡ Some contents
  pub bytes : List ℕ
  pub held : contents job.input ≡ Some bytes
  pub few : length bytes ≤ most_input
  pub doc : Document
  pub is : IsDoc bytes doc
  pub choice : IsChoice doc (listed_request job)
  pub usable : IsUsable (listed_units doc job)
  pub fonts : FontSet
  pub same : fonts.units ≡ listed_units doc job
  pub wanted : fonts.want ≡ wants.Widths
  pub right : AreRight contents fonts
  pub whole : IsWhole (listing_with doc job fonts)

-- What can be listed is listed, where neither the shelf nor the tray has a fault and memory is given.
abbrev pub ListsAll : List (List ℕ) → Told → Told → Seen → Seen → Outcome → Type 0
ListsAll words told later old new o =
    (job : ListJob) → Asks words (Listing job) → Plain job told → (Rose told.faults later.faults → ⊥) → (Rose old.faults new.faults → ⊥) → IsDoneOrRefused o
