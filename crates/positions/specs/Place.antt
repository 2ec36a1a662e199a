-- Where a page stands between two commands.
use Rattle.std.specs.Prelude.{◌^◌, ◌<◌, ℤ, pos, unsigned_abs}

-- The current place in units (h, v) and in pixels (hh, vv), and the amounts that the moves w, x, y and z repeat.
pub record Place : Type 0 where
  pub h : ℤ
  pub v : ℤ
  pub hh : ℤ
  pub vv : ℤ
  pub w : ℤ
  pub x : ℤ
  pub y : ℤ
  pub z : ℤ

-- how far from zero each of the numbers may be
pub record IsPlace (p : Place) : Type 0 where
  pub h : unsigned_abs p.h < 2 ^ 31
  pub v : unsigned_abs p.v < 2 ^ 31
  pub hh : unsigned_abs p.hh < 2 ^ 32
  pub vv : unsigned_abs p.vv < 2 ^ 32
  pub w : unsigned_abs p.w < 2 ^ 39
  pub x : unsigned_abs p.x < 2 ^ 39
  pub y : unsigned_abs p.y < 2 ^ 39
  pub z : unsigned_abs p.z < 2 ^ 39

-- where a page begins
abbrev pub origin : Place
origin = record { h = pos 0; v = pos 0; hh = pos 0; vv = pos 0; w = pos 0; x = pos 0; y = pos 0; z = pos 0 }
