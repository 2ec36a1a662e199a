-- What a writer that takes mark after mark writes for each. It keeps the pen behind the lines that it has written, and of the stretch that it has taken
-- and not written its codes and places alone; a mark that doesn't go on the stretch makes it write the stretch's line, whose end leads to that mark.
use Rattle.std.specs.Prelude.{ℕ, ℤ, Bool, List, [], ◌∷◌, ◌++◌, codes, if◌then◌else◌, Option, Some, None}
use Rattle.positions.specs.Mark.{Mark, Glyph, Rule, Special}
use Rattle.positions.specs.Mark.Mark.{OfGlyph, OfRule, OfSpecial}
use Rattle.ps_subset.specs.Prolog.{line}
use Rattle.ps_subset.specs.Items as item
use Rattle.ps_subset.specs.Items.{Item, Pen, first_pen, item_lines, pen_behind, x_of, y_of}
use Rattle.ps_subset.specs.Marks.{Kept, kept_goes_on, kept_closing, kept_pen, with_code}
use Rattle.ps_emit.specs.Shapes.{passed_on}

pub record Sheet : Type 0 where
  pub pen : Pen
  pub stretch : Option Kept

-- before the first mark of a page
abbrev pub first_sheet : Sheet
first_sheet = record { pen = first_pen; stretch = None }

-- the line of the open stretch, where the next item is at this pixel or there is none, and what is kept behind it
abbrev pub closing_lines : Sheet → Option (ℤ × ℤ) → List ℕ
closing_lines s next = kept_closing s.pen s.stretch next

abbrev pub closed_sheet : Sheet → Option (ℤ × ℤ) → Sheet
closed_sheet s next = record { pen = kept_pen s.pen s.stretch next; stretch = None }

-- a letter goes on the open stretch, or the stretch is written and the letter opens one
abbrev pub glyph_lines : Sheet → Glyph → List ℕ
glyph_lines s g = if kept_goes_on s.stretch g.font g.x g.y then [] else closing_lines s (Some (g.x, g.y))

abbrev pub glyph_sheet : Sheet → Glyph → Sheet
glyph_sheet s g = record {
  pen = if kept_goes_on s.stretch g.font g.x g.y then s.pen else kept_pen s.pen s.stretch (Some (g.x, g.y));
  stretch = with_code s.stretch g.font g.code g.x g.y g.pixels;
}

-- a rule or a block: the open stretch is written, and then the item
abbrev pub item_written : Sheet → Item → List ℕ
item_written s i = closing_lines s (Some (x_of i, y_of i)) ++ item_lines (kept_pen s.pen s.stretch (Some (x_of i, y_of i))) i None

abbrev pub item_sheet : Sheet → Item → Sheet
item_sheet s i = record { pen = pen_behind (kept_pen s.pen s.stretch (Some (x_of i, y_of i))) i None; stretch = None }

abbrev pub rule_item : Rule → Item
rule_item r = item.Rule r.columns r.rows r.x r.y

-- a special that isn't passed on leaves all as it is
abbrev pub special_lines : Sheet → Special → Option (List ℕ) → List ℕ
special_lines s p None = []
special_lines s p (Some text) = item_written s (item.Block text p.x p.y)

abbrev pub special_sheet : Sheet → Special → Option (List ℕ) → Sheet
special_sheet s p None = s
special_sheet s p (Some text) = item_sheet s (item.Block text p.x p.y)

abbrev pub mark_lines : Bool → Sheet → Mark → List ℕ
mark_lines pass s (OfGlyph g) = glyph_lines s g
mark_lines pass s (OfRule r) = item_written s (rule_item r)
mark_lines pass s (OfSpecial p) = special_lines s p (passed_on pass p.bytes)

abbrev pub mark_sheet : Bool → Sheet → Mark → Sheet
mark_sheet pass s (OfGlyph g) = glyph_sheet s g
mark_sheet pass s (OfRule r) = item_sheet s (rule_item r)
mark_sheet pass s (OfSpecial p) = special_sheet s p (passed_on pass p.bytes)

-- marks one after another
abbrev pub marks_lines : Bool → Sheet → List Mark → List ℕ
marks_lines pass s [] = []
marks_lines pass s (m ∷ ms) = mark_lines pass s m ++ marks_lines pass (mark_sheet pass s m) ms

abbrev pub marks_sheet : Bool → Sheet → List Mark → Sheet
marks_sheet pass s [] = s
marks_sheet pass s (m ∷ ms) = marks_sheet pass (mark_sheet pass s m) ms

-- what ends a page: the line of the stretch that is still open, and eop
abbrev pub page_end : Sheet → List ℕ
page_end s = closing_lines s None ++ line (codes "eop")
