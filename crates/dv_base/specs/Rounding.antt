-- Lengths in pixels. A length of x units is x · top / bottom pixels, which is not a whole number in general.
use Rattle.std.specs.Prelude.{ℕ, suc, ◌+◌, ◌-◌, ◌*◌, ◌/◌, ◌^◌, ◌<◌, ◌≤◌, ℤ, pos, negsuc, ◌-ℤ◌, ◌*ℤ◌, ◌≤ℤ◌, neg_ℤ, unsigned_abs}

-- the pixels of one unit
pub record Fraction : Type 0 where
  pub top : ℕ
  pub bottom : ℕ

-- 2^31 - 1 units are fewer than 2^30 pixels
pub record IsFine (f : Fraction) : Type 0 where
  pub positive : 0 < f.bottom
  pub fine : f.top * (2 ^ 31 - 1) < f.bottom * 2 ^ 30

-- how far n pixels are from x units, as a multiple of 1 / bottom
abbrev pub distance : Fraction → ℤ → ℤ → ℕ
distance f x n = unsigned_abs (n *ℤ pos f.bottom -ℤ x *ℤ pos f.top)

-- n pixels are x units but for half a pixel at most
abbrev pub IsNear : Fraction → ℤ → ℤ → Type 0
IsNear f x n = 2 * distance f x n ≤ f.bottom

-- n is the whole number of pixels nearest to x units, and of two such the one further from zero
pub record IsNearest (f : Fraction) (x n : ℤ) : Type 0 where
  pub near : IsNear f x n
  pub furthest : (m : ℤ) → IsNear f x m → unsigned_abs m ≤ unsigned_abs n

-- n is the least whole number of pixels that is not below x units
pub record IsCeiling (f : Fraction) (x n : ℤ) : Type 0 where
  pub above : (x *ℤ pos f.top) ≤ℤ (n *ℤ pos f.bottom)
  pub least : (m : ℤ) → (x *ℤ pos f.top) ≤ℤ (m *ℤ pos f.bottom) → n ≤ℤ m

-- the nearest whole number to a length that is not negative, a half upwards
abbrev pub half_up : Fraction → ℕ → ℕ
half_up f a = (2 * a * f.top + f.bottom) / (2 * f.bottom)

-- The two as functions of the length; the laws in RoundingLaws say that they are what the relations above ask for.
unfoldable pub rounded : Fraction → ℤ → ℤ
rounded f (pos a) = pos (half_up f a)
rounded f (negsuc a) = neg_ℤ (pos (half_up f (suc a)))

unfoldable pub ceiling : Fraction → ℤ → ℤ
ceiling f (pos a) = pos ((a * f.top + f.bottom - 1) / f.bottom)
ceiling f (negsuc a) = neg_ℤ (pos (suc a * f.top / f.bottom))
