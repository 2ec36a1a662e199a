-- What a job of sample leaves: so many pages of a document that is made in memory, printed.
use Rattle.std.specs.Prelude.{◌≡◌, ℕ, ◌*◌, ◌++◌, pos, List, [], Option, Some, None, Bool, true, codes, decimal, if◌then◌else◌}
use Rattle.dv_base.specs.MemShelf.{is_name}
use Rattle.dv_base.specs.Shelf.{Contents, Told}
use Rattle.dv_base.specs.Tray.{Says, Seen}
use Rattle.dv_words.specs.Draft.{no_draft}
use Rattle.dv_words.specs.Jobs.{PrintJob, print_job}
use Rattle.sample_files.specs.Bitmaps.{pk}
use Rattle.sample_files.specs.Document.{document}
use Rattle.sample_files.specs.Widths.{tfm}
use Rattle.dv_top.specs.Outputs.{LeavesLines, LeavesOutput}
use Rattle.dv_top.specs.Printed as printed
use Rattle.dv_top.specs.Printed.{Finishes}
use Rattle.dv_top.specs.declared.outcome.Outcome.{Outcome}
use Rattle.dv_top.specs.declared.outcome.Outcome.TheVariants as outcome
use Rattle.dv_top.specs.declared.print.Printout.{Printout}

-- The job: that of the words dvips -q -D 300 -S 8 -o sample.ps sample.dvi.
abbrev pub sample_print : PrintJob
sample_print =
    print_job (codes "sample.dvi")
    (record no_draft { quiet = true; across = Some 300; down = Some 300; per_section = Some 8; output = Some (codes "sample.ps") })

-- the files: the document, and the metrics and the bitmaps of its font
abbrev pub sample_file : ℕ → Contents
sample_file pages name =
    if is_name (codes "smp.300pk") name then Some pk
    else if is_name (codes "smp.tfm") name then Some tfm
    else if is_name (codes "sample.dvi") name then Some (document pages)
    else None

-- a shelf that holds these files and nothing else, and of which nothing was asked yet
pub record IsSampleShelf (pages : ℕ) (told : Told) : Type 0 where
  pub held : Contents
  pub holds : told.held ≡ Some held
  pub files : (name : List ℕ) → held name ≡ sample_file pages name
  pub faults : told.faults ≡ 0

-- The line that is said of so many pages, each of which has 2,400 glyphs and a rule: the sections and bytes are those of the text.
abbrev pub sample_line : ℕ → Printout → List ℕ
sample_line pages n =
    codes "pages=" ++ decimal pages ++ codes " sections=" ++ decimal n.sections ++ codes " glyphs=" ++ decimal (2400 * pages) ++ codes " rules="
    ++ decimal pages ++ codes " bytes=" ++ decimal n.bytes

-- The text was written whole, it shows what is owed, and its line is the only one that was said.
pub record Done (pages : ℕ) (old new : Seen) : Type 0 where
  pub told : Told
  pub shelf : IsSampleShelf pages told
  pub between : Seen
  pub count : Printout
  pub finishes : Finishes sample_print told old between count
  pub silent : LeavesLines [] old between
  pub says : Says (sample_line pages count) between new

-- The output couldn't be written, as a job of dvips leaves it.
pub record Unwritten (pages : ℕ) (old new : Seen) : Type 0 where
  pub told : Told
  pub shelf : IsSampleShelf pages told
  pub later : Told
  pub leaves : printed.Leaves sample_print told later old new outcome.WriteFault

-- Nothing was begun, and nothing said.
pub record Wanting (old new : Seen) : Type 0 where
  pub left : LeavesOutput (codes "sample.ps") None old new
  pub silent : LeavesLines [] old new

-- What a job leaves, by its outcome. No other outcome comes.
abbrev pub Leaves : ℕ → Seen → Seen → Outcome → Type 0
Leaves pages old new outcome.Done = Done pages old new
Leaves pages old new outcome.WriteFault = Unwritten pages old new
Leaves pages old new outcome.OutOfMemory = Wanting old new
Leaves pages old new _ = ⊥
