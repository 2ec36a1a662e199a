-- Fonts that serve all pages of a job.
use Rattle.std.specs.Prelude.{◌≡◌, List, [], ◌∷◌, ◌++◌, fold, Option, Some, None}
use Rattle.indexmap.specs.IndexSet.{insert_key}
use Rattle.dv_base.specs.Shelf.{Told}
use Rattle.positions.specs.Mark.{Mark}
use Rattle.dvi_ops.specs.Command.{Definition}
use Rattle.dvi_doc.specs.Document.{Document, PageOf}
use Rattle.dv_words.specs.Jobs.{PrintJob}
use Rattle.font_set.specs.Covers.{Covers}
use Rattle.font_set.specs.Expand.{Expanded, expand, keys_of}
use Rattle.font_set.specs.Fonts.{FontSet}
use Rattle.font_set.specs.Growth.{keys_now}
use Rattle.font_set.specs.Key.{Key, same_key}
use Rattle.vf_expand.specs.Page.{page_acts}
use Rattle.vf_expand.specs.Pages.{most_nested}
use Rattle.font_set.specs.Shapes.{shapes_of}
use Rattle.dv_top.specs.Each.{Each}
use Rattle.dv_top.specs.Printing.{IsMarked, chosen, grid_of, marks_of_each, printed}
use Rattle.dv_top.specs.Sources.{Sources, frame_of}

-- the fonts cover each of the pages
abbrev pub CoversPages : FontSet → List Definition → List PageOf → Type 0
CoversPages set ds pages = Each (λ p. Covers set (page_acts ds p.commands)) pages

-- Sources whose fonts cover the chosen pages.
pub record Covered (job : PrintJob) (told : Told) : Type 0 where
  pub sources : Sources job told
  pub covers : CoversPages sources.set sources.selected.source.doc.fonts (chosen sources.selected.source.doc job)

module _ {job : PrintJob} {told : Told} where
  -- the document, its pages' grid, and the set of fonts
  abbrev pub doc_of : Covered job told → Document
  doc_of c = c.sources.selected.source.doc

  abbrev pub set_of : Covered job told → FontSet
  set_of c = c.sources.set

  -- The chosen pages, each by its marks.
  abbrev pub chosen_marks : Covered job told → List (List Mark)
  chosen_marks c = marks_of_each (grid_of (doc_of c) job) (set_of c) (doc_of c).fonts (chosen (doc_of c) job)

  -- So the pages that are printed.
  abbrev pub printed_marks : Covered job told → List (List Mark)
  printed_marks c = marks_of_each (grid_of (doc_of c) job) (set_of c) (doc_of c).fonts (printed (doc_of c) job)

-- The marks of the chosen pages are defined.
pub record Marked (job : PrintJob) (told : Told) : Type 0 where
  pub covered : Covered job told
  pub defined : Each (IsMarked (grid_of (doc_of covered) job) (set_of covered) (doc_of covered).fonts) (chosen (doc_of covered) job)

abbrev pub keys_or_none : Option Expanded → List Key
keys_or_none None = []
keys_or_none (Some x) = keys_of x

-- The keys that pages select, in order: those that a packet selects stand in the place of its character.
abbrev pub selected_keys : FontSet → List Definition → List PageOf → List Key
selected_keys set ds [] = []
selected_keys set ds (p ∷ ps) = keys_or_none (expand (shapes_of set) most_nested (frame_of ds p)) ++ selected_keys set ds ps

-- The fonts are numbered in that order, each key once.
abbrev pub IsNumbered : FontSet → List Definition → List PageOf → Type 0
IsNumbered set ds pages = keys_now set ≡ fold (insert_key same_key) [] (selected_keys set ds pages)

-- The page has an expanded tree.
abbrev pub Expands : FontSet → List Definition → PageOf → Type 0
Expands set ds p = (x : Expanded) × (expand (shapes_of set) most_nested (frame_of ds p) ≡ Some x)
