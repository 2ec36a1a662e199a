-- One command after another (DVI format, the meaning of the commands). A character is one character here, of a virtual font too.
use Rattle.std.specs.Prelude.{ℕ, ◌^◌, ◌/◌, Bool, ◌&&◌, ℤ, pos, List, [], ◌∷◌, length, Option, Some, None, nat_lt, nat_le, if◌then◌else◌, unsigned_abs}
use Rattle.indexmap.specs.IndexSet.{insert_key}
use Rattle.dv_base.specs.Rounding.{Fraction, ceiling, rounded}
use Rattle.positions.specs.Place.{Place}
use Rattle.positions.specs.Drift.{advanced, right, down}
use Rattle.dvi_ops.specs.Command.{Command}
use Rattle.dvi_ops.specs.Command.Command.{Set, Put, Fnt, Push, Pop, Eop, SetRule, PutRule, Nop, FntDef, Right, W0, W, X0, X, Down, Y0, Y, Z0, Z, Xxx}
use Rattle.font_set.specs.Key.{Key, same_key}
use Rattle.font_set.specs.Programs.{key_in}
use Rattle.dvitype_list.specs.Standing.{Standing, Setting}

-- pixels of a place may drift so far from the exact ones
abbrev pub drift : ℤ
drift = pos 2

-- how many pushes may be open, and how many fonts may be known
abbrev pub most_open : ℕ
most_open = 1000

abbrev pub most_known : ℕ
most_known = 1000

-- the space of the selected font, a sixth of its size; 0 where none is selected
abbrev pub space_of : Option Key → ℤ
space_of None = pos 0
space_of (Some key) = pos (key.size / 6)

abbrev pub right_by : Fraction → ℤ → ℤ → Place → Option Place
right_by f space q p = right f drift space p q

abbrev pub down_by : Fraction → ℤ → ℤ → Place → Option Place
down_by f space q p = down f drift space p q

-- behind a character of this width, and behind a rule of width b
abbrev pub past_char : Fraction → ℤ → Place → Option Place
past_char f width p = advanced f drift p width (rounded f width)

abbrev pub past_rule : Fraction → ℤ → Place → Option Place
past_rule f b p = advanced f drift p b (ceiling f b)

-- a size of a rule is at most 2^31 - 1 units
abbrev pub is_size : ℤ → Bool
is_size z = nat_lt (unsigned_abs z) (2 ^ 31)

abbrev pub where_sized : ℤ → ℤ → Option Place → Option Place
where_sized a b p = if is_size a && is_size b then p else None

-- The place behind a rule, a move, or a command that changes nothing, where the selected font has this space. Undefined where a number
-- would be too large.
unfoldable pub moved : Fraction → ℤ → Command → Place → Option Place
moved f space (SetRule a b) p = where_sized a b (past_rule f b p)
moved f space (PutRule a b) p = where_sized a b (Some p)
moved f space Nop p = Some p
moved f space (FntDef d) p = Some p
moved f space (Xxx text) p = Some p
moved f space (Right q) p = right_by f space q p
moved f space W0 p = right_by f space p.w p
moved f space (W q) p = right_by f space q (record p { w = q })
moved f space X0 p = right_by f space p.x p
moved f space (X q) p = right_by f space q (record p { x = q })
moved f space (Down q) p = down_by f space q p
moved f space Y0 p = down_by f space p.y p
moved f space (Y q) p = down_by f space q (record p { y = q })
moved f space Z0 p = down_by f space p.z p
moved f space (Z q) p = down_by f space q (record p { z = q })
moved f space _ p = None

-- ---- with what else stands

abbrev pub stand_at : Standing → Option Place → Option Standing
stand_at st None = None
stand_at st (Some p) = Some (record st { place = p })

-- the width of a character in the selected font
abbrev pub width_in : Setting → Option Key → ℤ → Option ℤ
width_in s None z = None
width_in s (Some key) z = s.width key z

abbrev pub set_by : Fraction → Standing → Option ℤ → Option Standing
set_by f st None = None
set_by f st (Some width) = stand_at st (past_char f width st.place)

abbrev pub put_by : Standing → Option ℤ → Option Standing
put_by st None = None
put_by st (Some width) = Some st

-- this font is selected; it is one of those known, or becomes the last of them
abbrev pub in_font : Standing → Option Key → Option Standing
in_font st None = None
in_font st (Some key) =
    if nat_le (length (insert_key same_key st.known key)) most_known
    then Some (record st { font = Some key; known = insert_key same_key st.known key })
    else None

abbrev pub pushed : Standing → Option Standing
pushed st = if nat_lt (length st.pushes) most_open then Some (record st { pushes = st.place ∷ st.pushes }) else None

-- the place that was kept last, which is the first here, comes back
abbrev pub popped : Standing → List Place → Option Standing
popped st [] = None
popped st (p ∷ ps) = Some (record st { place = p; pushes = ps })

-- at the end of a page no push is open
abbrev pub closed : Standing → List Place → Option Standing
closed st [] = Some st
closed st (p ∷ ps) = None

-- What stands behind a command of a page, its eop included. Undefined where the command can't be run.
unfoldable pub turned : Setting → Command → Standing → Option Standing
turned s (Set z) st = set_by s.pixels st (width_in s st.font z)
turned s (Put z) st = put_by st (width_in s st.font z)
turned s (Fnt k) st = in_font st (key_in s.fonts k)
turned s Push st = pushed st
turned s Pop st = popped st st.pushes
turned s Eop st = closed st st.pushes
turned s c st = stand_at st (moved s.pixels (space_of st.font) c st.place)
