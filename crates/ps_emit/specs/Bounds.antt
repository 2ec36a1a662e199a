-- How large the numbers of the writer are. (No public clause cites this module: its words are those of the code.)
use Rattle.std.specs.Prelude.{◌<◌, ◌≤◌, ◌^◌, ℤ, length, unsigned_abs, Option, Some, None}
use Rattle.ps_subset.specs.Items.{Pen}
use Rattle.ps_subset.specs.Marks.{Kept}

-- a pixel of a mark
abbrev pub IsNear : ℤ → Type 0
IsNear z = unsigned_abs z < 2 ^ 32

abbrev pub IsNearPixel : ℤ × ℤ → Type 0
IsNearPixel p = IsNear p.0 × IsNear p.1

abbrev pub IsNearNext : Option (ℤ × ℤ) → Type 0
IsNearNext None = Unit {0}
IsNearNext (Some p) = IsNearPixel p

-- the pixel behind a stretch is one glyph farther, and a way between two pixels twice as far
pub record IsNearPen (p : Pen) : Type 0 where
  pub x : unsigned_abs p.x < 2 ^ 33
  pub y : unsigned_abs p.y < 2 ^ 33
  pub delta : unsigned_abs p.delta < 2 ^ 35

pub record IsNearKept (k : Kept) : Type 0 where
  pub few : length k.codes ≤ 50
  pub x : IsNear k.x
  pub y : IsNear k.y
  pub last : unsigned_abs k.last < 2 ^ 33
