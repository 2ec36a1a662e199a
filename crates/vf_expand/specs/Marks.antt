-- The marks of commands, and the state behind them (DVI format, the meaning of the commands).
use Rattle.std.specs.Prelude.{ℕ, ◌^◌, Bool, ◌&&◌, ℤ, pos, List, [], ◌∷◌, ◌++◌, Option, Some, None, nat_lt, if◌then◌else◌, unsigned_abs, int_lt}
use Rattle.dv_base.specs.Rounding.{ceiling, rounded}
use Rattle.positions.specs.Place.{Place}
use Rattle.positions.specs.Drift.{advanced, right, down}
use Rattle.positions.specs.Mark.{Mark}
use Rattle.positions.specs.Mark.Mark.{OfRule, OfSpecial}
use Rattle.dvi_ops.specs.Command.{Command}
use Rattle.dvi_ops.specs.Command.Command.{Set, Put, Fnt, SetRule, PutRule, Nop, FntDef, Right, W0, W, X0, X, Down, Y0, Y, Z0, Z, Xxx}
use Rattle.font_set.specs.Tree.{Tree}
use Rattle.font_set.specs.Tree.Tree.{End, Then, Group}
use Rattle.vf_expand.specs.Grid.{Grid, State}
use Rattle.vf_expand.specs.Meaning.{Meaning}

-- marks and the state behind them; nothing where these are undefined
abbrev pub Outcome : Type 0
Outcome = Option (List Mark × State)

-- these marks first
abbrev pub prepend : List Mark → Outcome → Outcome
prepend ms None = None
prepend ms (Some r) = Some (ms ++ r.0, r.1)

-- one outcome, and then what follows from the state behind it
abbrev pub after : Outcome → (State → Outcome) → Outcome
after None f = None
after (Some r) f = prepend r.0 (f r.1)

-- these marks, and the place where there is one
abbrev pub at_place : List Mark → Option ℕ → Option Place → Outcome
at_place ms font None = None
at_place ms font (Some p) = Some (ms, record { place = p; font = font })

-- a size of a rule is at most 2^31 - 1 units
abbrev pub is_size : ℤ → Bool
is_size z = nat_lt (unsigned_abs z) (2 ^ 31)

abbrev pub where_sized : ℤ → ℤ → Outcome → Outcome
where_sized a b o = if is_size a && is_size b then o else None

-- a rule of height a and width b, whose lower left pixel is that of the place
abbrev pub rule_at : Grid → Place → ℤ → ℤ → Mark
rule_at g p a b =
    OfRule
    (record {
      x = p.hh;
      y = p.vv;
      columns = ceiling g.across b;
      rows = ceiling g.down a;
      h = p.h;
      v = p.v;
      a = a;
      b = b;
    })

-- it is painted only where both are above 0
abbrev pub rule_marks : Grid → Place → ℤ → ℤ → List Mark
rule_marks g p a b = if int_lt (pos 0) a && int_lt (pos 0) b then rule_at g p a b ∷ [] else []

-- a special at the place
abbrev pub special_at : Place → List ℕ → Mark
special_at p text = OfSpecial (record { bytes = text; x = p.hh; y = p.vv; h = p.h; v = p.v })

-- moves by q, where the selected font has this space
abbrev pub right_by : Grid → ℤ → ℤ → Place → Option Place
right_by g space q p = right g.across g.drift space p q

abbrev pub down_by : Grid → ℤ → ℤ → Place → Option Place
down_by g space q p = down g.down g.drift space p q

-- right by the width of a character, which is rounded to pixels
abbrev pub past_char : Grid → ℤ → Place → Option Place
past_char g width p = advanced g.across g.drift p width (rounded g.across width)

-- right by the width of a rule, which is as many pixels as the rule has columns
abbrev pub past_rule : Grid → ℤ → Place → Option Place
past_rule g b p = advanced g.across g.drift p b (ceiling g.across b)

-- a character that moves by its width, and one that doesn't
abbrev pub set_char : Grid → State → Option (List Mark × ℤ) → Outcome
set_char g s None = None
set_char g s (Some r) = at_place r.0 s.font (past_char g r.1 s.place)

abbrev pub put_char : State → Option (List Mark × ℤ) → Outcome
put_char s None = None
put_char s (Some r) = Some (r.0, s)

abbrev pub in_font : State → Option ℕ → Outcome
in_font s None = None
in_font s (Some id) = Some ([], record { place = s.place; font = Some id })

-- One command that is neither push nor pop. Undefined for what may not stand in a frame.
unfoldable pub step : Meaning → Command → State → Outcome
step m (Set c) s = set_char m.grid s (m.char s.font c s.place)
step m (Put c) s = put_char s (m.char s.font c s.place)
step m (Fnt k) s = in_font s (m.select k)
step m (SetRule a b) s = where_sized (m.amount a) (m.amount b) (at_place (rule_marks m.grid s.place (m.amount a) (m.amount b)) s.font (past_rule m.grid (m.amount b) s.place))
step m (PutRule a b) s = where_sized (m.amount a) (m.amount b) (Some (rule_marks m.grid s.place (m.amount a) (m.amount b), s))
step m Nop s = Some ([], s)
step m (FntDef d) s = Some ([], s)
step m (Right q) s = at_place [] s.font (right_by m.grid (m.space s.font) (m.amount q) s.place)
step m W0 s = at_place [] s.font (right_by m.grid (m.space s.font) s.place.w s.place)
step m (W q) s = at_place [] s.font (right_by m.grid (m.space s.font) (m.amount q) (record s.place { w = m.amount q }))
step m X0 s = at_place [] s.font (right_by m.grid (m.space s.font) s.place.x s.place)
step m (X q) s = at_place [] s.font (right_by m.grid (m.space s.font) (m.amount q) (record s.place { x = m.amount q }))
step m (Down q) s = at_place [] s.font (down_by m.grid (m.space s.font) (m.amount q) s.place)
step m Y0 s = at_place [] s.font (down_by m.grid (m.space s.font) s.place.y s.place)
step m (Y q) s = at_place [] s.font (down_by m.grid (m.space s.font) (m.amount q) (record s.place { y = m.amount q }))
step m Z0 s = at_place [] s.font (down_by m.grid (m.space s.font) s.place.z s.place)
step m (Z q) s = at_place [] s.font (down_by m.grid (m.space s.font) (m.amount q) (record s.place { z = m.amount q }))
step m (Xxx text) s = Some (special_at s.place text ∷ [], s)
step m _ s = None

-- behind a group: the place before it, and the font that stands at its end
abbrev pub restored : Place → State → State
restored p s = record { place = p; font = s.font }

unfoldable pub marks : Meaning → Tree → State → Outcome
marks m End s = Some ([], s)
marks m (Then c t) s = after (step m c.command s) (marks m t)
marks m (Group p i q t) s = after (marks m i s) (λ r. marks m t (restored s.place r))

abbrev pub marks_of : Meaning → Option Tree → State → Outcome
marks_of m None s = None
marks_of m (Some t) s = marks m t s

-- the marks of an outcome alone
abbrev pub marks_alone : Outcome → Option (List Mark)
marks_alone None = None
marks_alone (Some r) = Some r.0
