-- What a document says of the pages that are copied, and the copy that these make.
use Rattle.std.specs.Prelude.{ℕ, List, map, Some, None, false}
use Rattle.dv_base.specs.UnitPixels.{pixels_of_one}
use Rattle.dv_base.specs.declared.units.Units.{Units}
use Rattle.dvi_ops.specs.Command.{Definition}
use Rattle.dvi_doc.specs.Document.{Document, PageOf}
use Rattle.dv_words.specs.Jobs.{CopyJob}
use Rattle.dv_words.specs.declared.pages.Parity.TheVariants as parity
use Rattle.dv_words.specs.declared.pages.Windows.TheVariants.{One}
use Rattle.font_set.specs.Fonts.{FontSet}
use Rattle.vf_expand.specs.Grid.{Grid}
use Rattle.vf_expand.specs.Page.{page_marks}
use Rattle.dvicopy_out.specs.Copies.{Page, Work}
use Rattle.dvicopy_out.specs.Pages.{marks_or_none}
use Rattle.dv_top.specs.Printing.{grid_with}
use Rattle.dv_top.specs.Scaled.{magnified, units_of}
use Rattle.dv_top.specs.Selecting.{Request, pages_of}

-- dots an inch, and how many pixels a place may drift
abbrev pub copy_dpi : ℕ
copy_dpi = 300

abbrev pub copy_drift : ℕ
copy_drift = 2

-- the document's units, with the magnification in force
abbrev pub copy_units : Document → CopyJob → Units
copy_units doc job = units_of doc job.mag copy_dpi

-- how these turn into pixels
abbrev pub copy_grid : Document → CopyJob → Grid
copy_grid doc job = grid_with (pixels_of_one (copy_units doc job)) (pixels_of_one (copy_units doc job)) copy_drift

-- what a job asks of the pages: from the first one of that number on, at most so many
abbrev pub asked_of : CopyJob → Request
asked_of job = record { windows = One job.start None false; parity = parity.All; limit = Some job.most; reversed = false; collated = 1 }

-- The chosen pages, in the document's order.
abbrev pub picked : Document → CopyJob → List PageOf
picked doc job = pages_of doc (asked_of job)

-- a page of the copy: its counts, and its marks, where these are defined
abbrev pub copied_page : Grid → FontSet → List Definition → PageOf → Page
copied_page g set ds p = record { counts = p.counts; marks = marks_or_none (page_marks g set ds p.commands) }

abbrev pub copied_pages : Grid → FontSet → List Definition → List PageOf → List Page
copied_pages g set ds ps = map (copied_page g set ds) ps

-- what the copy is made of besides: what the document's preamble and postamble say, the magnification in force, the fonts
abbrev pub copy_work : Document → CopyJob → FontSet → Work
copy_work doc job set = record { head = doc.head; tail = doc.tail; mag = magnified doc.head.mag job.mag; set = set }
