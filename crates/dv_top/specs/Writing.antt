-- When a page can be written, and what is asked before a text is. No public clause cites this module.
use Rattle.std.specs.Prelude.{◌≡◌, ◌<◌, ◌≤◌, ◌^◌, ℕ, List, length, unsigned_abs, Option, Some}
use Rattle.positions.specs.Mark.{Mark}
use Rattle.dvi_ops.specs.Command.{Definition}
use Rattle.dvi_doc.specs.Document.{PageOf}
use Rattle.dvi_doc.specs.View.{IsRead, ReadDoc}
use Rattle.tfm_widths.specs.Widths.{Table}
use Rattle.pk_raster.specs.Font.{Font}
use Rattle.font_set.specs.Covers.{Covers, IsThere}
use Rattle.font_set.specs.Fonts.{FontSet, State, state_at}
use Rattle.vf_expand.specs.Grid as grid
use Rattle.vf_expand.specs.Grid.{Grid}
use Rattle.vf_expand.specs.Page.{IsShallowPage, page_acts, page_count, page_marks}
use Rattle.sections.specs.Sections.{all_marks}
use Rattle.ps_emit.specs.Taken.{AllTakeable}
use Rattle.dv_top.specs.Each.{Each}
use Rattle.dv_top.specs.Printing.{label_of, marks_of_each, most_steps}
use Rattle.dv_top.specs.Selecting.{ArePages}

-- each real font that is loaded has its bitmaps
abbrev pub HasRasters : FontSet → Type 0
HasRasters set = (id : ℕ) (tfm : Table) (o : Option Font) → state_at set id ≡ State.Real tfm o → IsThere o

-- A page that can be written: fonts cover it, its marks are defined and can be taken by a writer, no push is too deep, and its commands
-- are not too many.
pub record IsReady (g : Grid) (set : FontSet) (ds : List Definition) (p : PageOf) : Type 0 where
  pub marks : List Mark
  pub state : grid.State
  pub defined : page_marks g set ds p.commands ≡ Some (marks, state)
  pub takeable : AllTakeable set marks
  pub covered : Covers set (page_acts ds p.commands)
  pub shallow : IsShallowPage g set ds p.commands
  pub few : page_count set ds p.commands ≤ most_steps
  pub labelled : unsigned_abs (label_of p.counts) ≤ 2 ^ 31

-- the marks of pages, one after another
abbrev pub marks_in : Grid → FontSet → List Definition → List PageOf → List Mark
marks_in g set ds ps = all_marks (marks_of_each g set ds ps)

-- The document was read, its places are counted by numbers below 2^31, and the pages at these places are ready.
pub record IsWalkable (doc : ReadDoc) (places : List ℕ) (g : Grid) (set : FontSet) : Type 0 where
  pub read : IsRead doc
  pub short : length doc.bytes < 2 ^ 31
  pub within : Each (λ place. place < length doc.pages) places
  pub ready : (pages : List PageOf) → ArePages doc places pages → Each (IsReady g set doc.fonts) pages
