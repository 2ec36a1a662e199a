-- Widths by a set of fonts.
use Rattle.std.specs.Prelude.{ℕ, ℤ, pos, negsuc, List, Option, Some, None, nat_lt, if◌then◌else◌}
use Rattle.dv_base.specs.Rounding.{Fraction}
use Rattle.dvi_ops.specs.Command.{Definition}
use Rattle.font_set.specs.Key.{Key}
use Rattle.font_set.specs.Fonts.{FontSet, place_of, width_at}
use Rattle.font_set.specs.Programs.{page_fonts}
use Rattle.dvitype_list.specs.Standing.{Setting}

-- the width of a character in a font of the set, where the font is loaded and has one; codes are 0 to 255
abbrev pub width_told : FontSet → Option ℕ → ℤ → Option ℤ
width_told set None z = None
width_told set (Some id) (pos code) = if nat_lt code 256 then width_at set id code else None
width_told set (Some id) (negsuc n) = None

unfoldable pub widths_of : FontSet → Key → ℤ → Option ℤ
widths_of set key z = width_told set (place_of set.fonts key) z

-- what the commands of a document are judged by, where its fonts are those of the set
abbrev pub setting : Fraction → List Definition → FontSet → Setting
setting pixels ds set = record { pixels = pixels; fonts = page_fonts ds; width = widths_of set }

-- the width of a character in a font that may be none
abbrev pub width_by : FontSet → Option Key → ℤ → Option ℤ
width_by set None z = None
width_by set (Some key) z = widths_of set key z
