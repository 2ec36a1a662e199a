-- What stands between two commands of a page.
use Rattle.std.specs.Prelude.{ℤ, List, [], Option, None}
use Rattle.dv_base.specs.Rounding.{Fraction}
use Rattle.positions.specs.Place.{Place, origin}
use Rattle.font_set.specs.Key.{Key}
use Rattle.font_set.specs.Programs.{Named}

-- The current place; the selected font; the places that the open pushes keep, the last one first; and the fonts that were selected so
-- far, on this page and those before it, each once.
pub record Standing : Type 0 where
  pub place : Place
  pub font : Option Key
  pub pushes : List Place
  pub known : List Key

-- behind the bop of a page (DVI format, bop)
abbrev pub page_start : List Key → Standing
page_start known = record { place = origin; font = None; pushes = []; known = known }

-- What commands are judged by: how many pixels a unit has, the fonts of the document by their numbers, and the width of a character by its
-- font and its code, in units, where the font's TFM file tells one.
pub record Setting : Type 0 where
  pub pixels : Fraction
  pub fonts : List Named
  pub width : Key → ℤ → Option ℤ
