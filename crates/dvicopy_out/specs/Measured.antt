-- What a measure has counted.
use Rattle.std.specs.Prelude.{◌≡◌, ◌<◌, ℕ, List, length}
use Rattle.positions.specs.Mark.{Mark, IsModerate}
use Rattle.positions.specs.Mark.Mark.{OfGlyph, OfRule, OfSpecial}
use Rattle.font_set.specs.Fonts.{FontSet}
use Rattle.dvicopy_out.specs.Counted.{counted}
use Rattle.dvicopy_out.specs.Spelled.{spelled}
use Rattle.dvicopy_out.specs.Marked.{Pen, marks_commands, marks_pen}
use Rattle.dvicopy_out.specs.declared.measure.Measure.{Measure}

-- the fonts of the run, the place on the page, and the bytes so far
abbrev pub fonts_of : Measure → FontSet
fonts_of m = m.fonts.now

abbrev pub pen_of : Measure → Pen
pen_of m = m.pen

abbrev pub bytes_of : Measure → ℕ
bytes_of m = m.count

-- a glyph is of a font of the set, and the numbers of a mark are not too large
abbrev pub IsGiven : FontSet → Mark → Type 0
IsGiven set (OfGlyph g) = g.font < length set.fonts
IsGiven set (OfRule r) = Unit {0}
IsGiven set (OfSpecial s) = Unit {0}

abbrev pub IsTakeable : FontSet → Mark → Type 0
IsTakeable set mark = IsModerate mark × IsGiven set mark

-- the commands of these marks have been counted, and the place is the one behind them
pub record Took (old new : Measure) (marks : List Mark) : Type 0 where
  pub fonts : fonts_of new ≡ fonts_of old
  pub pen : pen_of new ≡ marks_pen (fonts_of old) (pen_of old) marks
  pub bytes : bytes_of new ≡ counted (bytes_of old) (length (spelled (marks_commands (fonts_of old) (pen_of old) marks)))
