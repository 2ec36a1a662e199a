-- What can be copied is copied.
use Rattle.std.specs.Prelude.{◌≡◌, ◌≤◌, ℕ, List, length, Some}
use Rattle.dv_base.specs.Causes.{Rose}
use Rattle.dv_base.specs.Shelf.{Contents, Told}
use Rattle.dv_base.specs.Tray.{Seen}
use Rattle.dv_base.specs.UnitPixels.{IsUsable}
use Rattle.dv_base.specs.declared.units.Units.{Units}
use Rattle.dvi_ops.specs.Command.{Definition}
use Rattle.dvi_doc.specs.Document.{Document, PageOf}
use Rattle.dvi_doc.specs.Grammar.{IsDoc}
use Rattle.dv_words.specs.Jobs.{CopyJob}
use Rattle.dv_words.specs.Jobs.Job.{Copying}
use Rattle.dv_words.specs.Words.{Asks}
use Rattle.font_set.specs.Alike.{AreRight}
use Rattle.font_set.specs.Fonts.{FontSet}
use Rattle.font_set.specs.declared.want.Want.TheVariants as wants
use Rattle.vf_expand.specs.Page.{IsShallowPage, pages_count}
use Rattle.dv_top.specs.Completeness.{IsDoneOrRefused}
use Rattle.dv_top.specs.Copyable.{Walkable, copy_for, longest_copy}
use Rattle.dv_top.specs.Copying.{asked_of, copy_grid, copy_units, picked}
use Rattle.dv_top.specs.Covered.{CoversPages}
use Rattle.dv_top.specs.Each.{Each}
use Rattle.dv_top.specs.Printing.{IsMarked, most_steps}
use Rattle.dv_top.specs.Reading.{most_input}
use Rattle.dv_top.specs.Selecting.{IsChoice}
use Rattle.dv_top.specs.declared.outcome.Outcome.{Outcome}

-- Fonts from held files that serve pages, without their bitmaps: each that is loaded is what the files of its key tell, so its TFM file is
-- there, and it and a VF file are right and within their limits; the fonts cover the pages, so each character that is set has a width, and
-- its packet where the font is virtual; and they are at most 1,000.
pub record ServeCopy (contents : Contents) (units : Units) (ds : List Definition) (pages : List PageOf) (fonts : FontSet) : Type 0 where
  pub same : fonts.units ≡ units
  pub wanted : fonts.want ≡ wants.Packets
  pub right : AreRight contents fonts
  pub covers : CoversPages fonts ds pages
  pub few : length fonts.fonts ≤ 1000

-- A document that is known to be copyable: it is held, and has the pages that are asked for, and its units are usable; fonts from held files
-- serve the chosen pages; with them the marks of these pages are defined, no push is too deep, and the commands are not too many; and what
-- is its copy, with the fonts in the order in which the pages select them, isn't too long.
pub record PlainCopy (job : CopyJob) (told : Told) : Type 0 where
  pub contents : Contents
  pub tells : told.held ≡ Some contents
  pub bytes : List ℕ
  pub held : contents job.input ≡ Some bytes
  pub few : length bytes ≤ most_input
  pub doc : Document
  pub is : IsDoc bytes doc
  pub choice : IsChoice doc (asked_of job)
  pub usable : IsUsable (copy_units doc job)
  pub fonts : FontSet
  pub serve : ServeCopy contents (copy_units doc job) doc.fonts (picked doc job) fonts
  pub marked : Each (IsMarked (copy_grid doc job) fonts doc.fonts) (picked doc job)
  pub shallow : Each (λ p. IsShallowPage (copy_grid doc job) fonts doc.fonts p.commands) (picked doc job)
  pub steps : pages_count fonts doc.fonts (picked doc job) ≤ most_steps
  pub short : (w : Walkable job told) → length (copy_for w) ≤ longest_copy

-- What can be copied is copied, where neither the shelf nor the tray has a fault and memory is given.
abbrev pub CopiesAll : List (List ℕ) → Told → Told → Seen → Seen → Outcome → Type 0
CopiesAll words told later old new o =
    (job : CopyJob) → Asks words (Copying job) → PlainCopy job told → (Rose told.faults later.faults → ⊥) → (Rose old.faults new.faults → ⊥) → IsDoneOrRefused o
