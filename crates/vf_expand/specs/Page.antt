-- Walks over the pages of a document.
use Rattle.std.specs.Prelude.{◌≡◌, ℕ, ◌+◌, List, [], ◌∷◌, slice_get, Some}
use Rattle.dv_base.specs.declared.font_id.Spot.TheVariants as spot
use Rattle.positions.specs.Place.{origin}
use Rattle.dvi_ops.specs.Command.{Definition}
use Rattle.dvi_ops.specs.Placed.{Placed}
use Rattle.dvi_doc.specs.Document.{Document, PageOf}
use Rattle.dvi_doc.specs.Grammar.{IsDoc}
use Rattle.dvi_doc.specs.View.{ReadDoc}
use Rattle.font_set.specs.Fonts.{FontSet}
use Rattle.font_set.specs.Programs.{page_program}
use Rattle.font_set.specs.Frames.{FontAct, acts_of}
use Rattle.font_set.specs.Count.{count}
use Rattle.vf_expand.specs.Grid.{Grid}
use Rattle.vf_expand.specs.Marks.{Outcome}
use Rattle.vf_expand.specs.Pages.{most_nested, frame_marks}
use Rattle.vf_expand.specs.Causes.{IsCause}
use Rattle.vf_expand.specs.Shallow.{IsShallow}
use Rattle.vf_expand.specs.declared.fault.WalkFault.{WalkFault}

-- a walker: what it was made with, and how many commands it has met since it was reset
pub record Walk : Type 0 where
  pub grid : Grid
  pub steps : ℕ

-- this is the page with that number in the document that was read
abbrev pub IsPage : ReadDoc → ℕ → PageOf → Type 0
IsPage r page p = (d : Document) × IsDoc r.bytes d × (slice_get d.pages page ≡ Some p)

-- The marks of a page with these commands, where the document defines these fonts, and the state at its end.
abbrev pub page_marks : Grid → FontSet → List Definition → List Placed → Outcome
page_marks g set ds cs = frame_marks g set most_nested (page_program ds cs) origin

-- what the page does with fonts
abbrev pub page_acts : List Definition → List Placed → List FontAct
page_acts ds cs = acts_of (page_program ds cs)

-- how many commands it runs, those of packets counted
abbrev pub page_count : FontSet → List Definition → List Placed → ℕ
page_count set ds cs = count set most_nested (page_program ds cs)

-- the same of pages in a row
abbrev pub pages_count : FontSet → List Definition → List PageOf → ℕ
pages_count set ds [] = 0
pages_count set ds (p ∷ ps) = page_count set ds p.commands + pages_count set ds ps

-- Why a walk over the page stops.
abbrev pub IsPageCause : {F : Type 0} → Grid → FontSet → List Definition → PageOf → WalkFault F → Type 0
IsPageCause g set ds p e = IsCause g set most_nested (page_program ds p.commands) origin (λ at. spot.Page at) p.eop 0 e

-- No push of the page, or of a packet that it runs, finds 1,000 pushes open.
abbrev pub IsShallowPage : Grid → FontSet → List Definition → List Placed → Type 0
IsShallowPage g set ds cs = IsShallow g set most_nested (page_program ds cs) origin 0
