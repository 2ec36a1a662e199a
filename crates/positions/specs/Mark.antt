-- What a page puts on the paper, and what it says to a driver, each with its place in pixels (x, y) and in units (h, v).
use Rattle.std.specs.Prelude.{ℕ, ◌^◌, ◌<◌, ℤ, List, length, unsigned_abs}

-- a character: its font's number, its code, and its width in units and in pixels
pub record Glyph : Type 0 where
  pub font : ℕ
  pub code : ℕ
  pub x : ℤ
  pub y : ℤ
  pub h : ℤ
  pub v : ℤ
  pub width : ℤ
  pub pixels : ℤ

-- a rule: its columns and rows of pixels, of which (x, y) is the lower left one, and its height and width in units
pub record Rule : Type 0 where
  pub x : ℤ
  pub y : ℤ
  pub columns : ℤ
  pub rows : ℤ
  pub h : ℤ
  pub v : ℤ
  pub a : ℤ
  pub b : ℤ

-- a special: its bytes
pub record Special : Type 0 where
  pub bytes : List ℕ
  pub x : ℤ
  pub y : ℤ
  pub h : ℤ
  pub v : ℤ

pub data Mark : Type 0 where
  OfGlyph : (glyph : Glyph) → Mark
  OfRule : (rule : Rule) → Mark
  OfSpecial : (special : Special) → Mark

-- below 2^32 from zero, as numbers of pixels are, and below 2^31, as places in units are
abbrev pub Moderate : ℤ → Type 0
Moderate n = unsigned_abs n < 2 ^ 32

abbrev pub Small : ℤ → Type 0
Small n = unsigned_abs n < 2 ^ 31

-- what every canvas asks of the numbers of a mark
abbrev pub IsModerate : Mark → Type 0
IsModerate (OfGlyph m) = Moderate m.x × Moderate m.y × Small m.h × Small m.v × Moderate m.width × Moderate m.pixels
IsModerate (OfRule m) = Moderate m.x × Moderate m.y × Moderate m.columns × Moderate m.rows × Small m.h × Small m.v × Small m.a × Small m.b
IsModerate (OfSpecial m) = length m.bytes < 2 ^ 31 × Moderate m.x × Moderate m.y × Small m.h × Small m.v
