-- Which units of a DVI file can be turned into pixels, and what one unit is in pixels.
use Rattle.std.specs.Prelude.{◌≡◌, ℕ, ◌*◌, ◌^◌, ◌<◌, pos, ◌<ℤ◌, unsigned_abs}
use Rattle.dv_base.specs.declared.units.Units.{Units}
use Rattle.dv_base.specs.Rounding.{Fraction, IsFine}
use Rattle.dv_base.specs.Lowest.{lowest}

-- num / den of 10^-7 metres, magnified by mag / 1000, at dpi pixels an inch, which has 254000 of 10^-7 metres
abbrev pub unit_length : Units → Fraction
unit_length units = record {
  top = unsigned_abs units.num * unsigned_abs units.mag * unsigned_abs units.dpi;
  bottom = 254000 * 1000 * unsigned_abs units.den;
}

-- the same number of pixels, in lowest terms
abbrev pub pixels_of_one : Units → Fraction
pixels_of_one units = lowest (unit_length units)

-- one number as two fractions
abbrev pub IsSameNumber : Fraction → Fraction → Type 0
IsSameNumber f g = f.top * g.bottom ≡ g.top * f.bottom

-- Each of the four is at least 1, and 2^31 - 1 units are fewer than 2^30 pixels.
pub record IsUsable (units : Units) : Type 0 where
  pub num : pos 0 <ℤ units.num
  pub den : pos 0 <ℤ units.den
  pub mag : pos 0 <ℤ units.mag
  pub dpi : pos 0 <ℤ units.dpi
  pub fine : IsFine (unit_length units)

-- What a conversion keeps: a unit has a length, a fine one, and there is room for the products with lengths in 128 bits.
pub record IsKept (top bottom : ℕ) : Type 0 where
  pub some : 0 < top
  pub fine : IsFine (record { top = top; bottom = bottom })
  pub room : bottom < 2 ^ 60
