-- The rules among the marks of a page.
use Rattle.std.specs.Prelude.{◌≡◌, ◌&&◌, pos, true, int_lt, List, Some}
use Rattle.std.specs.List.{AllByRecursion}
use Rattle.positions.specs.Mark.{Mark}
use Rattle.positions.specs.Mark.Mark.{OfGlyph, OfRule, OfSpecial}
use Rattle.font_set.specs.Fonts.{FontSet}
use Rattle.font_set.specs.Programs.{Program}
use Rattle.vf_expand.specs.Exact.{marks_at}
use Rattle.vf_expand.specs.Grid.{Grid}

-- the height and the width of a rule are above 0
abbrev pub IsInked : Mark → Type 0
IsInked (OfGlyph m) = Unit {0}
IsInked (OfRule m) = (int_lt (pos 0) m.a && int_lt (pos 0) m.b) ≡ true
IsInked (OfSpecial m) = Unit {0}

-- A rule that is among a page's marks is one that is painted.
abbrev pub RulesArePainted : Type 0
RulesArePainted = (g : Grid) (set : FontSet) (page : Program) (ms : List Mark) → marks_at g set page ≡ Some ms → AllByRecursion IsInked ms
