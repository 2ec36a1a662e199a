-- What a job of dvicopy has read. Each part is what the shelf holds, where it tells that.
use Rattle.std.specs.Prelude.{◌≤◌, IfSome}
use Rattle.dv_base.specs.Shelf.{Told}
use Rattle.dv_base.specs.UnitPixels.{IsUsable}
use Rattle.dvi_doc.specs.Document.{Document}
use Rattle.dv_words.specs.Jobs.{CopyJob}
use Rattle.font_set.specs.Fonts.{FontSet}
use Rattle.font_set.specs.declared.want.Want.TheVariants as wants
use Rattle.dv_top.specs.Copying.{asked_of, copy_units, picked}
use Rattle.dv_top.specs.Covered.{CoversPages}
use Rattle.dv_top.specs.Reading.{Source}
use Rattle.dv_top.specs.Selecting.{IsChoice}
use Rattle.dv_top.specs.Sources.{AreFontsFrom, no_fonts_of}

-- What a job of dvicopy is that accepted words ask for: its magnification is small.
pub record IsGoodCopy (job : CopyJob) : Type 0 where
  pub mag : IfSome job.mag (λ m. m ≤ 100000)

-- The pages that the job asks for are there.
pub record Wanted (job : CopyJob) (told : Told) : Type 0 where
  pub source : Source job.input told
  pub choice : IsChoice source.doc (asked_of job)

-- The document's units turn into pixels, and these fonts came from the shelf for the chosen pages: widths and packets, and no bitmaps.
pub record Supplied (job : CopyJob) (told : Told) : Type 0 where
  pub wanted : Wanted job told
  pub usable : IsUsable (copy_units wanted.source.doc job)
  pub set : FontSet
  pub fonts : AreFontsFrom told (no_fonts_of wants.Packets (copy_units wanted.source.doc job)) wanted.source.doc.fonts (picked wanted.source.doc job) set

-- They cover the chosen pages.
pub record Covered (job : CopyJob) (told : Told) : Type 0 where
  pub supplied : Supplied job told
  pub covers : CoversPages supplied.set supplied.wanted.source.doc.fonts (picked supplied.wanted.source.doc job)

module _ {job : CopyJob} {told : Told} where
  abbrev pub doc_of : Covered job told → Document
  doc_of c = c.supplied.wanted.source.doc

  abbrev pub set_of : Covered job told → FontSet
  set_of c = c.supplied.set
