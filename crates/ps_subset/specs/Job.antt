-- The numbers of a job, and the page in points of PostScript: 72 an inch, counted from the lower left corner of the paper. A pixel of the job has its
-- place there, and so has a rule.
use Rattle.std.specs.Prelude.{ℕ, ◌<◌, ◌^◌, [], ◌∷◌, ℤ, pos, nat_abs, ◌+ℤ◌, ◌-ℤ◌, ◌*ℤ◌, None}
use Rattle.ps_subset.specs.Fraction.{Fraction, whole, times, minus, lowest}
use Rattle.ps_subset.specs.State.{Event, Mask, Place}

-- The numbers of the line TS: the paper's height in scaled points, the pixels of an inch across and down, and the pixels between the paper's
-- upper left corner and the origin.
pub record Job : Type 0 where
  pub height : ℤ
  pub across : ℕ
  pub down : ℕ
  pub origin_x : ℤ
  pub origin_y : ℤ

-- The page in points of PostScript, 72 an inch, from its lower left corner. A scaled point is a 65,536th of TeX's point, of which 72.27 are
-- an inch; the paper's height is taken as the prolog computes it.
abbrev pub points : ℤ → Fraction
points height = lowest (height *ℤ pos 100) 6578176

abbrev pub per_pixel : ℕ → Fraction
per_pixel resolution = lowest (pos 72) resolution

-- the place of the upper left corner of the pixel (x, y), and the size of so many columns and rows of pixels
abbrev pub pixel_place : Job → ℤ → ℤ → Place
pixel_place j x y = record {
  x = times (per_pixel j.across) (whole (x +ℤ j.origin_x));
  y = minus (points j.height) (times (per_pixel j.down) (whole (y +ℤ j.origin_y)));
}

abbrev pub pixels_size : Job → ℤ → ℤ → Place
pixels_size j columns rows = record { x = times (per_pixel j.across) (whole columns); y = times (per_pixel j.down) (whole rows) }

-- A rule is one black sample of the size of its columns and rows, at its upper left pixel. (x, y) is its lower left one.
abbrev pub rule_mask : Job → ℤ → ℤ → ℤ → ℤ → Event
rule_mask j x y columns rows = Mask None (pixel_place j x (y +ℤ pos 1 -ℤ rows)) (pixels_size j columns rows) 1 1 (128 ∷ [])

-- a number of at most 63 bits and a sign, which itoa prints
abbrev pub IsInRange : ℤ → Type 0
IsInRange z = nat_abs z < 2 ^ 63

pub record IsGoodJob (j : Job) : Type 0 where
  pub height : IsInRange j.height
  pub across_some : 0 < j.across
  pub across : j.across < 2 ^ 63
  pub down_some : 0 < j.down
  pub down : j.down < 2 ^ 63
  pub origin_x : IsInRange j.origin_x
  pub origin_y : IsInRange j.origin_y
