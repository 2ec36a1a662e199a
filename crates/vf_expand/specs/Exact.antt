-- Pages on a grid without drift.
use Rattle.std.specs.Prelude.{◌≡◌, ℕ, ℤ, pos, List, map, Option, option_map}
use Rattle.dv_base.specs.Rounding.{ceiling, rounded}
use Rattle.positions.specs.Mark.{Mark}
use Rattle.positions.specs.Mark.Mark.{OfGlyph, OfRule, OfSpecial}
use Rattle.positions.specs.Place.{origin}
use Rattle.font_set.specs.Fonts.{FontSet}
use Rattle.font_set.specs.Programs.{Program}
use Rattle.vf_expand.specs.Grid.{Grid}
use Rattle.vf_expand.specs.Marks.{marks_alone}
use Rattle.vf_expand.specs.Pages.{frame_marks, most_nested}

-- a mark in units, without its pixels
pub data UnitMark : Type 0 where
  UnitGlyph : (font code : ℕ) (h v width : ℤ) → UnitMark
  UnitRule : (h v a b : ℤ) → UnitMark
  UnitSpecial : (bytes : List ℕ) (h v : ℤ) → UnitMark

abbrev pub unit_mark : Mark → UnitMark
unit_mark (OfGlyph m) = UnitGlyph m.font m.code m.h m.v m.width
unit_mark (OfRule m) = UnitRule m.h m.v m.a m.b
unit_mark (OfSpecial m) = UnitSpecial m.bytes m.h m.v

-- The same mark on a grid: its place, and a glyph's width, are the pixels that are nearest to its units; a rule has the columns and rows
-- that cover it.
abbrev pub mark_on : Grid → Mark → Mark
mark_on g (OfGlyph m) = OfGlyph (record m { x = rounded g.across m.h; y = rounded g.down m.v; pixels = rounded g.across m.width })
mark_on g (OfRule m) = OfRule (record m { x = rounded g.across m.h; y = rounded g.down m.v; columns = ceiling g.across m.b; rows = ceiling g.down m.a })
mark_on g (OfSpecial m) = OfSpecial (record m { x = rounded g.across m.h; y = rounded g.down m.v })

-- the marks of a page, where they are defined
abbrev pub marks_at : Grid → FontSet → Program → Option (List Mark)
marks_at g set page = marks_alone (frame_marks g set most_nested page origin)

-- Without drift each mark of a page stands at the pixels that are nearest to its units.
abbrev pub PagesAreExact : Type 0
PagesAreExact = (g : Grid) (set : FontSet) (page : Program) → g.drift ≡ pos 0 → option_map (map (mark_on g)) (marks_at g set page) ≡ marks_at g set page

-- In units the marks of a page are the same on any two grids, whatever their resolutions and limits of drift are.
abbrev pub UnitsStay : Type 0
UnitsStay = (g h : Grid) (set : FontSet) (page : Program) → option_map (map unit_mark) (marks_at g set page) ≡ option_map (map unit_mark) (marks_at h set page)

-- So the marks on a grid without drift are those on any grid, each brought to the nearest pixels.
abbrev pub PagesOnGrids : Type 0
PagesOnGrids = (g h : Grid) (set : FontSet) (page : Program) → h.drift ≡ pos 0 → marks_at h set page ≡ option_map (map (mark_on h)) (marks_at g set page)
