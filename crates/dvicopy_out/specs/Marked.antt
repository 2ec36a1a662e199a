-- The commands that put marks on a page of a copy.
use Rattle.std.specs.Prelude.{◌^◌, ℕ, ℤ, pos, ◌+ℤ◌, ◌-ℤ◌, Bool, false, List, [], ◌∷◌, ◌++◌, nat_eq, nat_lt, unsigned_abs, if◌then◌else◌, Option, Some, None}
use Rattle.positions.specs.Mark.{Mark}
use Rattle.positions.specs.Mark.Mark.{OfGlyph, OfRule, OfSpecial}
use Rattle.dvi_ops.specs.Command.{Command}
use Rattle.dvi_ops.specs.Command.Command.{Set, Put, PutRule, Right, Down, Fnt, Xxx}
use Rattle.font_set.specs.Fonts.{FontSet}
use Rattle.dvicopy_out.specs.Moves.{moves}
use Rattle.dvicopy_out.specs.Numbered.{number_of}

-- where a page of the copy stands, and the number of the font that is selected there
pub record Pen : Type 0 where
  pub h : ℤ
  pub v : ℤ
  pub font : Option ℕ

-- at the start of a page
abbrev pub page_pen : Pen
page_pen = record { h = pos 0; v = pos 0; font = None }

-- to a place: right, and then down
abbrev pub way : Pen → ℤ → ℤ → List Command
way p h v = moves Right (h -ℤ p.h) ++ moves Down (v -ℤ p.v)

abbrev pub is_selected : Option ℕ → ℕ → Bool
is_selected None n = false
is_selected (Some m) n = nat_eq m n

-- a font is selected where another one is, or none
abbrev pub selecting : Option ℕ → ℕ → List Command
selecting o n = if is_selected o n then [] else Fnt (pos n) ∷ []

-- whether a place is at most 2^31 - 1 units from zero
abbrev pub fits : ℤ → Bool
fits place = nat_lt (unsigned_abs place) (2 ^ 31)

-- a character that moves by its width, where the place behind it fits
abbrev pub char_command : Bool → ℕ → Command
char_command moves code = if moves then Set (pos code) else Put (pos code)

-- The commands of a mark: to its place, and there a character, a rule or a special. n is the number of a character's font.
abbrev pub glyph_commands : Pen → ℕ → ℕ → ℤ → ℤ → ℤ → List Command
glyph_commands p n code h v width = way p h v ++ (selecting p.font n ++ char_command (fits (h +ℤ width)) code ∷ [])

abbrev pub mark_commands : FontSet → Pen → Mark → List Command
mark_commands set p (OfGlyph g) = glyph_commands p (number_of set g.font) g.code g.h g.v g.width
mark_commands set p (OfRule r) = way p r.h r.v ++ PutRule r.a r.b ∷ []
mark_commands set p (OfSpecial s) = way p s.h s.v ++ Xxx s.bytes ∷ []

-- behind a character
abbrev pub glyph_pen : ℕ → ℤ → ℤ → ℤ → Pen
glyph_pen n h v width = record { h = if fits (h +ℤ width) then h +ℤ width else h; v = v; font = Some n }

-- behind a mark
abbrev pub mark_pen : FontSet → Pen → Mark → Pen
mark_pen set p (OfGlyph g) = glyph_pen (number_of set g.font) g.h g.v g.width
mark_pen set p (OfRule r) = record { h = r.h; v = r.v; font = p.font }
mark_pen set p (OfSpecial s) = record { h = s.h; v = s.v; font = p.font }

-- the commands of marks, one after another
abbrev pub marks_commands : FontSet → Pen → List Mark → List Command
marks_commands set p [] = []
marks_commands set p (m ∷ ms) = mark_commands set p m ++ marks_commands set (mark_pen set p m) ms

abbrev pub marks_pen : FontSet → Pen → List Mark → Pen
marks_pen set p [] = p
marks_pen set p (m ∷ ms) = marks_pen set (mark_pen set p m) ms
