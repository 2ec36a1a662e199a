-- What a run has read of its job. Each part is what the shelf holds, where it tells that.
use Rattle.std.specs.Prelude.{List, []}
use Rattle.dv_base.specs.Shelf.{Told}
use Rattle.dv_base.specs.UnitPixels.{IsUsable}
use Rattle.dv_base.specs.declared.units.Units.{Units}
use Rattle.dvi_ops.specs.Command.{Definition}
use Rattle.dvi_doc.specs.Document.{PageOf}
use Rattle.dv_words.specs.Jobs.{PrintJob}
use Rattle.font_set.specs.Fonts.{FontSet}
use Rattle.font_set.specs.Gains.{Gains}
use Rattle.font_set.specs.LoadFaults.{MustKnow, MustLoad}
use Rattle.font_set.specs.Programs.{Program, page_program}
use Rattle.font_set.specs.declared.want.Want.{Want}
use Rattle.font_set.specs.declared.want.Want.TheVariants as wants
use Rattle.dv_top.specs.Each.{Any}
use Rattle.dv_top.specs.Printing.{chosen, request_of, units_across, units_down}
use Rattle.dv_top.specs.Reading.{Source}
use Rattle.dv_top.specs.Selecting.{IsChoice}

-- true of one of the pages
abbrev pub InSomePage : List PageOf → (PageOf → Type 0) → Type 0
InSomePage pages P = Any P pages

-- the page with the document's fonts, as the frame in which a walk begins
abbrev pub frame_of : List Definition → PageOf → Program
frame_of ds p = page_program ds p.commands

-- no fonts yet, of which so much is wanted
abbrev pub no_fonts_of : Want → Units → FontSet
no_fonts_of want units = record { units = units; want = want; fonts = [] }

-- no fonts yet; their bitmaps are wanted
abbrev pub no_fonts : Units → FontSet
no_fonts units = no_fonts_of wants.Rasters units

-- Fonts that came from the shelf for these pages, where there were none before: each that is loaded is what the files of its key tell, and
-- a character is set in it in a frame of one of the pages; each that is known is selected in such a frame.
abbrev pub AreFontsFrom : Told → FontSet → List Definition → List PageOf → FontSet → Type 0
AreFontsFrom told none ds pages set =
    Gains told.held none set
    (λ id. InSomePage pages (λ p. MustLoad set (frame_of ds p) id))
    (λ key. InSomePage pages (λ p. MustKnow set (frame_of ds p) key))

-- the same with bitmaps
abbrev pub AreFontsFor : Told → Units → List Definition → List PageOf → FontSet → Type 0
AreFontsFor told units ds pages set = AreFontsFrom told (no_fonts units) ds pages set

-- The pages that the job asks for are there.
pub record Selected (job : PrintJob) (told : Told) : Type 0 where
  pub source : Source job.input told
  pub choice : IsChoice source.doc (request_of job)

-- The document's units turn into pixels, across and down, and these fonts came from the shelf for the chosen pages.
pub record Sources (job : PrintJob) (told : Told) : Type 0 where
  pub selected : Selected job told
  pub usable : IsUsable (units_across selected.source.doc job)
  pub usable_down : IsUsable (units_down selected.source.doc job)
  pub set : FontSet
  pub fonts : AreFontsFor told (units_across selected.source.doc job) selected.source.doc.fonts (chosen selected.source.doc job) set
