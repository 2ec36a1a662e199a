-- What an emitter takes as a canvas: the lines of each mark are written, but for that of the stretch that is still open.
use Rattle.std.specs.Prelude.{◌≡◌, ◌<◌, List, pos, ◌<ℤ◌, Some}
use Rattle.std.specs.List.{AllByRecursion}
use Rattle.dv_base.specs.declared.tray.Tray.{Ghosts}
use Rattle.positions.specs.Mark.{Mark, IsModerate}
use Rattle.positions.specs.Mark.Mark.{OfGlyph, OfRule, OfSpecial}
use Rattle.pk_raster.specs.Font.{Bitmap}
use Rattle.font_set.specs.Fonts.{FontSet, bitmap_at, pixels_at}
use Rattle.ps_emit.specs.Sheet.{mark_lines, marks_lines, marks_sheet}
use Rattle.ps_emit.specs.Written.{Out, Wrote, Cut}
use Rattle.ps_emit.specs.Shown.{Holds, fonts_of, out_of, pass_of, sheet_of}
use Rattle.ps_emit.specs.declared.emitter.Emitter.{Emitter}

-- A glyph is one of a font with a bitmap for its code and has the font's width, a rule has columns and rows, and the numbers of a mark are not too
-- large.
abbrev pub IsTakeable : FontSet → Mark → Type 0
IsTakeable set (OfGlyph g) = IsModerate (OfGlyph g) × (g.code < 256) × (pixels_at set g.font g.code ≡ Some g.pixels) × ((b : Bitmap) × (bitmap_at set g.font g.code ≡ Some b))
IsTakeable set (OfRule r) = IsModerate (OfRule r) × (pos 0 <ℤ r.columns) × (pos 0 <ℤ r.rows)
IsTakeable set (OfSpecial s) = IsModerate (OfSpecial s)

abbrev pub AllTakeable : FontSet → List Mark → Type 0
AllTakeable set marks = AllByRecursion (IsTakeable set) marks

-- An output has been begun, and the mark is one that can be taken.
abbrev pub CanTake : {T : Type 0} {G : Ghosts T} → Emitter T G → Mark → Type 0
CanTake {T} {G} e mark = (0 < (out_of e).seen.begun) × IsTakeable (fonts_of e) mark

-- the lines of these marks have been written, and what is kept is what stands behind them
pub record Took {T : Type 0} {G : Ghosts T} (old new : Emitter T G) (marks : List Mark) : Type 0 where
  pub wrote : Wrote (marks_lines (pass_of old) (sheet_of old) marks) (out_of old) (out_of new)
  pub sheet : sheet_of new ≡ marks_sheet (pass_of old) (sheet_of old) marks
  pub holds : Holds old new

-- The lines of these marks have been written, and then a front of the lines of the next one, at which the count of faults rose.
pub record Refused {T : Type 0} {G : Ghosts T} (old new : Emitter T G) (marks : List Mark) (mark : Mark) : Type 0 where
  pub between : Out
  pub wrote : Wrote (marks_lines (pass_of old) (sheet_of old) marks) (out_of old) between
  pub cut : Cut (mark_lines (pass_of old) (marks_sheet (pass_of old) (sheet_of old) marks) mark) between (out_of new)
  pub holds : Holds old new
