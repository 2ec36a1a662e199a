-- The pages of a copy, by the places of the chosen pages in their document.
use Rattle.std.specs.Prelude.{◌≡◌, ◌<◌, ◌+◌, ℕ, ℤ, List, [], ◌∷◌, length, map, slice_get, Option, Some, None}
use Rattle.std.specs.List.{Contains}
use Rattle.dv_base.specs.declared.font_id.Spot.TheVariants as spot
use Rattle.positions.specs.Mark.{Mark}
use Rattle.positions.specs.Place.{origin}
use Rattle.dvi_doc.specs.View.{ReadDoc, Outline}
use Rattle.font_set.specs.Fonts.{FontSet}
use Rattle.font_set.specs.Frames.{acts_of}
use Rattle.font_set.specs.Covers.{Covers}
use Rattle.font_set.specs.Search.{page_of}
use Rattle.font_set.specs.Count.{count}
use Rattle.vf_expand.specs.Grid as grid
use Rattle.vf_expand.specs.Grid.{Grid}
use Rattle.vf_expand.specs.Marks.{Outcome}
use Rattle.vf_expand.specs.Pages.{frame_marks, most_nested}
use Rattle.vf_expand.specs.Causes.{IsCause, IsMany}
use Rattle.vf_expand.specs.Shallow.{IsShallow}
use Rattle.vf_expand.specs.declared.fault.WalkFault.{WalkFault}
use Rattle.dvicopy_out.specs.Copies.{Page}

-- the marks of the page at a place among a document's pages, and the state at its end
abbrev pub outcome_at : Grid → FontSet → ReadDoc → ℕ → Outcome
outcome_at g set r k = frame_marks g set most_nested (page_of r k) origin

abbrev pub marks_or_none : Outcome → List Mark
marks_or_none None = []
marks_or_none (Some o) = o.0

abbrev pub counts_in : Option Outline → List ℤ
counts_in None = []
counts_in (Some o) = o.counts

abbrev pub eop_in : Option Outline → ℕ
eop_in None = 0
eop_in (Some o) = o.eop

-- its counts, and its marks, where these are defined
abbrev pub copy_page : Grid → FontSet → ReadDoc → ℕ → Page
copy_page g set r k = record { counts = counts_in (slice_get r.pages k); marks = marks_or_none (outcome_at g set r k) }

abbrev pub copy_pages : Grid → FontSet → ReadDoc → List ℕ → List Page
copy_pages g set r ks = map (copy_page g set r) ks

-- how many commands the pages run, those of packets counted
abbrev pub commands_at : FontSet → ReadDoc → List ℕ → ℕ
commands_at set r [] = 0
commands_at set r (k ∷ ks) = count set most_nested (page_of r k) + commands_at set r ks

-- the page is there, and the fonts cover it
pub record IsCovered (set : FontSet) (r : ReadDoc) (k : ℕ) : Type 0 where
  pub there : k < length r.pages
  pub covers : Covers set (acts_of (page_of r k))

-- A page that can be copied: it has ten counts, its marks are defined, and no push is too deep.
pub record IsReady (g : Grid) (set : FontSet) (r : ReadDoc) (k : ℕ) : Type 0 where
  pub ten : length (copy_page g set r k).counts ≡ 10
  pub marks : List Mark
  pub state : grid.State
  pub defined : outcome_at g set r k ≡ Some (marks, state)
  pub shallow : IsShallow g set most_nested (page_of r k) origin 0

-- Why a walk over one of the pages stops.
abbrev pub IsCauseAt : {F : Type 0} → Grid → FontSet → ReadDoc → ℕ → WalkFault F → Type 0
IsCauseAt g set r k e = IsCause g set most_nested (page_of r k) origin (λ at. spot.Page at) (eop_in (slice_get r.pages k)) 0 e

-- Why a walk over the pages stops, where it began to count commands at 0.
pub record IsWalkCause {F : Type 0} (g : Grid) (set : FontSet) (r : ReadDoc) (ks : List ℕ) (e : WalkFault F) : Type 0 where
  pub page : ℕ
  pub among : Contains ks page
  pub cause : IsCauseAt g set r page e
  pub many : IsMany (commands_at set r ks) e
