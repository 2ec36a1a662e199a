-- The operators on the graphics state (PostScript Language Reference, 8.1: "Graphics state", "Coordinate system" and "Path construction"): a scale and an
-- offset in place of the full matrix, a current place in place of a path.
use Rattle.std.specs.Prelude.{List, [], ◌∷◌, Option, Some, None, if◌then◌else◌, ◌||◌, nat_lt, length, option_and_then, pos}
use Rattle.ps_subset.specs.Fraction.{Fraction, whole, plus, minus, times, over, is_zero}
use Rattle.ps_subset.specs.State.{Object, Number, Place, Frame, Graphics, Machine, push}

-- The graphics state: at most 31 are stacked.
abbrev pub gsave_effect : Machine → Option Machine
gsave_effect m = if nat_lt (length m.pushed) 31 then Some (record m { pushed = m.graphics ∷ m.pushed }) else None

abbrev pub grestore_effect : List Graphics → Machine → Option Machine
grestore_effect (g ∷ gs) m = Some (record m { graphics = g; pushed = gs })
grestore_effect [] m = None

-- the point (x, y) of a scale and offset, and the place that a move by (x, y) leads to
abbrev pub point : Frame → Fraction → Fraction → Place
point f x y = record { x = plus f.offset_x (times f.scale_x x); y = plus f.offset_y (times f.scale_y y) }

abbrev pub moved : Frame → Fraction → Fraction → Place → Place
moved f x y p = record { x = plus p.x (times f.scale_x x); y = plus p.y (times f.scale_y y) }

-- the frame with its offset at the point (x, y), and with its scale times (x, y)
abbrev pub translated : Frame → Fraction → Fraction → Frame
translated f x y = let p = point f x y in record f { offset_x = p.x; offset_y = p.y }

abbrev pub rescaled : Frame → Fraction → Fraction → Frame
rescaled f x y = record f { scale_x = times f.scale_x x; scale_y = times f.scale_y y }

abbrev pub with_frame : Frame → List Object → Machine → Machine
with_frame f rest m = record m { operands = rest; graphics = record m.graphics { frame = f } }

abbrev pub at_place : Place → List Object → Machine → Machine
at_place p rest m = record m { operands = rest; graphics = record m.graphics { place = Some p } }

abbrev pub scale_effect : Fraction → Fraction → List Object → Machine → Option Machine
scale_effect x y rest m = if is_zero x || is_zero y then None else Some (with_frame (rescaled m.graphics.frame x y) rest m)

abbrev pub push_pair : Option Fraction → Option Fraction → Machine → Option Machine
push_pair (Some x) (Some y) m = option_and_then (push (Number y)) (push (Number x) m)
push_pair _ _ m = None

-- a place in the present scale and offset
abbrev pub push_place : Machine → Place → Option Machine
push_place m p =
    let f = m.graphics.frame in
    push_pair (over (minus p.x f.offset_x) f.scale_x) (over (minus p.y f.offset_y) f.scale_y) m

-- Pages.
abbrev pub first_frame : Frame
first_frame = record { scale_x = whole (pos 1); scale_y = whole (pos 1); offset_x = whole (pos 0); offset_y = whole (pos 0) }
