-- Pixels of a place. They are kept beside the places in units, since letters look best at whole pixel widths; they may drift from the
-- exact places by a limit e, and a move that is no mere kern brings them back. (The rule is this project's own. It is made after that of
-- DVItype, which no standard of the format prescribes.)
use Rattle.std.specs.Prelude.{◌^◌, Bool, ◌||◌, nat_lt, int_le, if◌then◌else◌, ℤ, pos, ◌+ℤ◌, ◌-ℤ◌, ◌*ℤ◌, ◌≤ℤ◌, neg_ℤ, unsigned_abs, Option, Some, None}
use Rattle.std.specs.Int.{int_max, int_min}
use Rattle.dv_base.specs.Rounding.{Fraction, rounded}
use Rattle.positions.specs.Place.{Place}

-- a limit of the drift, in pixels
abbrev pub IsDrift : ℤ → Type 0
IsDrift e = (pos 0 ≤ℤ e) × (e ≤ℤ pos 1000)

-- a space, in units: a sixth of a font's size
abbrev pub IsSpace : ℤ → Type 0
IsSpace space = (pos 0 ≤ℤ space) × (space ≤ℤ pos (2 ^ 27))

-- n, brought into the range from t - e to t + e
unfoldable pub near : ℤ → ℤ → ℤ → ℤ
near e t n = int_max (t -ℤ e) (int_min n (t +ℤ e))

-- a place in units is at most 2^31 - 1 from zero
abbrev pub fits : ℤ → Bool
fits place = nat_lt (unsigned_abs place) (2 ^ 31)

-- The pixels behind a character or a rule of this width: at most e from the exact ones.
unfoldable pub pixels_behind : Fraction → ℤ → ℤ → ℤ → ℤ → ℤ
pixels_behind f e place pixels width = near e (rounded f place) (pixels +ℤ width)

-- The pixels after a move by q to this place: exact after one that is large, else at most e from the exact ones.
unfoldable pub pixels_after : Fraction → ℤ → Bool → ℤ → ℤ → ℤ → ℤ
pixels_after f e large place pixels q =
    if large then rounded f place else pixels_behind f e place pixels (rounded f q)

-- a move to the right is large from a space on, one to the left from four spaces on, and one up or down from five spaces on
unfoldable pub is_large_across : ℤ → ℤ → Bool
is_large_across space q = int_le space q || int_le q (neg_ℤ (pos 4 *ℤ space))

unfoldable pub is_large_down : ℤ → ℤ → Bool
is_large_down space q = int_le (pos 5 *ℤ space) (pos (unsigned_abs q))

-- behind a character or a rule of this width in units and in pixels, where that place fits
unfoldable pub advanced : Fraction → ℤ → Place → ℤ → ℤ → Option Place
advanced f e p width pixels =
    if fits (p.h +ℤ width)
    then Some (record p { h = p.h +ℤ width; hh = pixels_behind f e (p.h +ℤ width) p.hh pixels })
    else None

-- to the right by q, where that place fits
unfoldable pub right : Fraction → ℤ → ℤ → Place → ℤ → Option Place
right f e space p q =
    if fits (p.h +ℤ q)
    then Some (record p { h = p.h +ℤ q; hh = pixels_after f e (is_large_across space q) (p.h +ℤ q) p.hh q })
    else None

-- down by q, where that place fits
unfoldable pub down : Fraction → ℤ → ℤ → Place → ℤ → Option Place
down f e space p q =
    if fits (p.v +ℤ q)
    then Some (record p { v = p.v +ℤ q; vv = pixels_after f e (is_large_down space q) (p.v +ℤ q) p.vv q })
    else None
