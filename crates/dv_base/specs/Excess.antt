-- How far pixels are beyond a length.
use Rattle.std.specs.Prelude.{◌≡◌, ◌<◌, ◌≤◌, ◌+◌, ◌*◌, ◌^◌, ◌⊎◌, ℤ, pos, ◌-ℤ◌, ◌*ℤ◌, ◌≤ℤ◌, unsigned_abs}
use Rattle.dv_base.specs.Rounding.{Fraction}

-- How far n pixels are beyond x units, as a multiple of 1 / bottom: below 0 where they don't reach them.
abbrev pub excess : Fraction → ℤ → ℤ → ℤ
excess f x n = n *ℤ pos f.bottom -ℤ x *ℤ pos f.top

-- A number of 64 bits tells an excess: it is the same where that is below 2^60 in size, and else it is 2^61.
abbrev pub Tells : ℤ → ℤ → Type 0
Tells told exact = ((unsigned_abs exact < 2 ^ 60) × (told ≡ exact)) ⊎ ((2 ^ 60 ≤ unsigned_abs exact) × (told ≡ pos (2 ^ 61)))

-- With an excess of this size, pixels are less than drift and a half from a length, so at most drift from the rounded one. It is the
-- largest such number below 2^59.
pub record IsReach (f : Fraction) (drift reach : ℤ) : Type 0 where
  pub least : pos 0 ≤ℤ reach
  pub most : unsigned_abs reach < 2 ^ 59
  pub within : 2 * unsigned_abs reach < (2 * unsigned_abs drift + 1) * f.bottom
  pub largest : (unsigned_abs reach + 1 ≡ 2 ^ 59) ⊎ ((2 * unsigned_abs drift + 1) * f.bottom ≤ 2 * (unsigned_abs reach + 1))
