-- The marks of a copy's pages on a grid without drift, by the keys of their fonts.
use Rattle.std.specs.Prelude.{◌≡◌, ℕ, ℤ, pos, List, [], ◌∷◌, map, slice_get, Option, Some, None}
use Rattle.positions.specs.Mark.{Mark, Rule, Special}
use Rattle.positions.specs.Mark.Mark.{OfGlyph, OfRule, OfSpecial}
use Rattle.dvi_ops.specs.Command.{Definition}
use Rattle.dvi_doc.specs.Document.{Document, PageOf, document_of}
use Rattle.dvi_doc.specs.View.{ReadDoc}
use Rattle.font_set.specs.Key.{Key}
use Rattle.font_set.specs.Fonts.{FontSet, key_at}
use Rattle.vf_expand.specs.Grid.{Grid}
use Rattle.vf_expand.specs.Marks.{Outcome}
use Rattle.vf_expand.specs.Page.{page_marks}
use Rattle.dvicopy_out.specs.AsDocument.{file_of}
use Rattle.dvicopy_out.specs.Leaves.{work_of}
use Rattle.dvicopy_out.specs.Made.{IsMade}
use Rattle.dvicopy_out.specs.Pages.{copy_pages, counts_in, outcome_at}
use Rattle.dvicopy_out.specs.Units.{Serves}

-- a whole mark, in units and in pixels; a character has its font's key in place of the font's number in a set
pub data KeyedMark : Type 0 where
  KeyedGlyph : (key : Key) (code : ℕ) (x y h v width pixels : ℤ) → KeyedMark
  KeyedRule : (rule : Rule) → KeyedMark
  KeyedSpecial : (special : Special) → KeyedMark

abbrev pub keyed : FontSet → Mark → KeyedMark
keyed set (OfGlyph g) = KeyedGlyph (key_at set g.font) g.code g.x g.y g.h g.v g.width g.pixels
keyed set (OfRule r) = KeyedRule r
keyed set (OfSpecial s) = KeyedSpecial s

-- the marks of a page, where they are defined
abbrev pub keyed_marks : FontSet → Outcome → Option (List KeyedMark)
keyed_marks set None = None
keyed_marks set (Some r) = Some (map (keyed set) r.0)

-- the marks of both are defined, and are the same
abbrev pub AreSame : Option (List KeyedMark) → Option (List KeyedMark) → Type 0
AreSame a b = (ms : List KeyedMark) × (a ≡ Some ms) × (b ≡ Some ms)

-- Page for page the copy, read with the fonts of the other set, has the counts and the marks of the chosen pages, read with those of the
-- set.
abbrev pub HasPages : Grid → FontSet → FontSet → ReadDoc → List ℕ → List Definition → List PageOf → Type 0
HasPages h set other r [] ds [] = Unit {0}
HasPages h set other r [] ds (q ∷ qs) = ⊥
HasPages h set other r (k ∷ ks) ds [] = ⊥
HasPages h set other r (k ∷ ks) ds (q ∷ qs) =
    (q.counts ≡ counts_in (slice_get r.pages k)) × AreSame (keyed_marks other (page_marks h other ds q.commands)) (keyed_marks set (outcome_at h set r k)) × HasPages h set other r ks ds qs

-- the document that a copy is
abbrev pub copy_document : Grid → FontSet → ReadDoc → List ℕ → ℤ → Document
copy_document g set r ks mag = document_of (file_of (work_of r set mag) (copy_pages g set r ks))

-- A copy keeps the marks: at any two resolutions, across and down, without drift, its pages have exactly the marks of the chosen pages, at the
-- same pixels. This holds in any set of fonts in which the copied ones are real and have the same widths.
abbrev pub CopyKeepsMarks : Type 0
CopyKeepsMarks = (g : Grid) (set : FontSet) (r : ReadDoc) (ks : List ℕ) (mag : ℤ) → IsMade g set r ks mag → (other : FontSet) → Serves set other → (h : Grid) → h.drift ≡ pos 0
    → HasPages h set other r ks (copy_document g set r ks mag).fonts (copy_document g set r ks mag).pages
