-- What the fonts of a section cost a printer: 2,560 a font, and for each used glyph 160 and the bytes of its bitmap.
use Rattle.std.specs.Prelude.{◌≡◌, ◌<◌, ℕ, ◌+◌, Bool, not, List, length, Option, Some, None, nat_eq, if◌then◌else◌}
use Rattle.std.specs.List.{list_any}
use Rattle.pk_raster.specs.Font.{Bitmap}
use Rattle.font_set.specs.Fonts.{FontSet, bitmap_at}
use Rattle.positions.specs.Mark.{Mark}
use Rattle.sections.specs.Below.{sum_below, any_below}
use Rattle.sections.specs.Used.{Used, price_of, used_in}

-- A bitmap has a black pixel where one of its bytes isn't 0, since its rows are padded by bits 0. A blank one counts as a byte.
abbrev pub has_black : List ℕ → Bool
has_black rows = list_any (λ byte. not (nat_eq byte 0)) rows

abbrev pub rows_cost : List ℕ → ℕ
rows_cost rows = if has_black rows then length rows else 1

abbrev pub bitmap_cost : Option Bitmap → ℕ
bitmap_cost None = 0
bitmap_cost (Some bitmap) = rows_cost bitmap.rows

-- what a glyph costs
abbrev pub glyph_price : FontSet → ℕ → ℕ → ℕ
glyph_price set id code = 160 + bitmap_cost (bitmap_at set id code)

-- what the used codes of a font cost, where a code costs its price
abbrev pub code_cost : (ℕ → ℕ) → (ℕ → Bool) → ℕ → ℕ
code_cost price used code = if used code then price code else 0

abbrev pub font_cost : (ℕ → ℕ) → (ℕ → Bool) → ℕ
font_cost price used = if any_below used 256 then 2560 + sum_below (code_cost price used) 256 else 0

-- what a font costs beside its glyphs, where it isn't used yet
abbrev pub font_step : Bool → ℕ
font_step used = if used then 0 else 2560

-- what the used glyphs of n fonts cost, where a glyph of a font and code costs its price
unfoldable pub total : (ℕ → ℕ → ℕ) → (ℕ → ℕ → Bool) → ℕ → ℕ
total price used n = sum_below (λ id. font_cost (price id) (used id)) n

-- The cost of the used glyphs of a set of fonts.
abbrev pub cost : FontSet → (ℕ → ℕ → Bool) → ℕ
cost set used = total (glyph_price set) used (length set.fonts)

-- The cost of what marks use.
abbrev pub marks_cost : FontSet → List Mark → ℕ
marks_cost set marks = cost set (used_in marks)

-- The prices are those of the glyphs of this set.
pub record IsPriced (set : FontSet) (u : Used) : Type 0 where
  pub fonts : u.fonts ≡ length set.fonts
  pub prices : (id code : ℕ) → id < u.fonts → code < 256 → price_of u id code ≡ glyph_price set id code
