-- A listing as a function of the commands and of what stands behind each: its lines, and whether it ends before a command that can't be
-- run.
use Rattle.std.specs.Prelude.{ℕ, ◌+◌, Bool, if◌then◌else◌, ℤ, pos, List, [], ◌∷◌, ◌++◌, length, Option, Some, None, slice_get}
use Rattle.dvi_ops.specs.Command.{Preamble}
use Rattle.dvi_ops.specs.Command.Command.{Eop}
use Rattle.dvi_ops.specs.Placed.{Placed}
use Rattle.dvi_doc.specs.Document.{Document, PageOf}
use Rattle.font_set.specs.Key.{Key}
use Rattle.positions.specs.Place.{Place}
use Rattle.dvitype_list.specs.Standing.{Standing, Setting, page_start}
use Rattle.dvitype_list.specs.Turns.{turned}
use Rattle.dvitype_list.specs.Texts.{command_line, head_text, font_lines, page_line, done_line}

-- how commands end: all are run, and this stands behind them; or this is the first that can't be run, and this stands before it
pub data Course : Type 0 where
  Ends : (st : Standing) → Course
  Stops : (c : Placed) (st : Standing) → Course

-- the lines up to there, each with its line end
pub record Run : Type 0 where
  pub text : List ℕ
  pub course : Course

-- these lines first
abbrev pub then_text : List ℕ → Run → Run
then_text front r = record { text = front ++ r.text; course = r.course }

abbrev pub go_on : Run → Course → (Standing → Run) → Run
go_on r (Ends st) f = then_text r.text (f st)
go_on r (Stops c st) f = r

-- one run, and then what follows from where it ends
abbrev pub then_run : Run → (Standing → Run) → Run
then_run r f = go_on r r.course f

-- where each command is listed, the line of one
abbrev pub line_of : Bool → Placed → Place → List ℕ
line_of detail c p = if detail then command_line c.place c.command p else []

abbrev pub one_run : Bool → Placed → Standing → Option Standing → Run
one_run detail c st None = record { text = []; course = Stops c st }
one_run detail c st (Some t) = record { text = line_of detail c t.place; course = Ends t }

-- the lines of commands from what stands before them
unfoldable pub commands_run : Setting → Bool → List Placed → Standing → Run
commands_run s detail [] st = record { text = []; course = Ends st }
commands_run s detail (c ∷ cs) st = then_run (one_run detail c st (turned s c.command st)) (commands_run s detail cs)

-- the commands of a page, its eop included
abbrev pub page_commands : PageOf → List Placed
page_commands p = p.commands ++ record { place = p.eop; command = Eop } ∷ []

-- a page: its line, and the lines of its commands
abbrev pub page_run : Setting → Bool → ℕ → Option PageOf → List Key → Run
page_run s detail i None known = record { text = []; course = Ends (page_start known) }
page_run s detail i (Some p) known = then_text (page_line (i + 1) p.at p.counts) (commands_run s detail (page_commands p) (page_start known))

-- pages by their places in the document, one after another
unfoldable pub pages_run : Setting → Bool → List PageOf → List ℕ → Standing → Run
pages_run s detail pages [] st = record { text = []; course = Ends st }
pages_run s detail pages (i ∷ is) st = then_run (page_run s detail i (slice_get pages i) st.known) (pages_run s detail pages is)

-- the last line
abbrev pub done_run : ℕ → Standing → Run
done_run pages st = record { text = done_line pages; course = Ends st }

-- the magnification in force: the one that is asked for, or else the file's
abbrev pub magnification_of : Preamble → Option ℕ → ℤ
magnification_of head None = head.mag
magnification_of head (Some mag) = pos mag

-- The listing of the pages at these places of a document, where this is the magnification in force.
unfoldable pub listing : Setting → Bool → Document → ℤ → List ℕ → Run
listing s detail d mag places =
    then_text (head_text d.head mag (length d.pages) ++ font_lines d.fonts)
    (then_run (pages_run s detail d.pages places (page_start [])) (done_run (length places)))
