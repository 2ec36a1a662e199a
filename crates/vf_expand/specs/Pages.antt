-- The marks of a frame, through the packets that it runs.
use Rattle.std.specs.Prelude.{ℕ, zero, suc, ℤ, pos, negsuc, List, [], ◌∷◌, Option, Some, None}
use Rattle.dv_base.specs.Scale.{scaled}
use Rattle.dv_base.specs.Rounding.{rounded}
use Rattle.positions.specs.Place.{Place}
use Rattle.positions.specs.Mark.{Glyph, Mark}
use Rattle.positions.specs.Mark.Mark.{OfGlyph}
use Rattle.font_set.specs.Fonts.{State, FontSet, space_at, state_at, width_at}
use Rattle.font_set.specs.Programs.{Named, Scope, Program, program_at, select, first_font, id_of}
use Rattle.font_set.specs.Tree.{tree_of}
use Rattle.vf_expand.specs.Grid as grid
use Rattle.vf_expand.specs.Grid.{Grid, page_start}
use Rattle.vf_expand.specs.Meaning.{Meaning, Showing}
use Rattle.vf_expand.specs.Marks.{Outcome, marks_of}

-- how many packets may be nested
abbrev pub most_nested : ℕ
most_nested = 16

-- the space of the selected font, and 0 where none is selected
abbrev pub space_of : FontSet → Option ℕ → ℤ
space_of set None = pos 0
space_of set (Some id) = space_at set id

-- an amount of a packet is a part of the virtual font's size
abbrev pub amount_of : Option ℕ → ℤ → ℤ
amount_of None q = q
amount_of (Some size) q = scaled size q

abbrev pub glyph_record : Grid → ℕ → ℕ → Place → ℤ → Glyph
glyph_record g id code p width = record { font = id; code = code; x = p.hh; y = p.vv; h = p.h; v = p.v; width = width; pixels = rounded g.across width }

abbrev pub glyph_at : Grid → ℕ → ℕ → Place → ℤ → Mark
glyph_at g id code p width = OfGlyph (glyph_record g id code p width)

-- where a packet begins
abbrev pub inner : Place → Place
inner p = record p { w = pos 0; x = pos 0; y = pos 0; z = pos 0 }

abbrev pub start_in : FontSet → Program → Place → grid.State
start_in set program p = record { place = p; font = first_font set program }

abbrev pub boxed : ℤ → Outcome → Option (List Mark × ℤ)
boxed width None = None
boxed width (Some r) = Some (r.0, width)

abbrev pub run_packet : (Program → Place → Outcome) → ℤ → Place → Option Program → Option (List Mark × ℤ)
run_packet run width p None = None
run_packet run width p (Some program) = boxed width (run program (inner p))

-- a character of a font: a glyph of a real one, and the marks of its packet where the font is virtual
abbrev pub shown_in : (Program → Place → Outcome) → Grid → ℕ → ℕ → Place → State → Option Program → Option ℤ → Option (List Mark × ℤ)
shown_in run g id code p s program None = None
shown_in run g id code p State.Known program (Some width) = None
shown_in run g id code p (State.Real tfm pk) program (Some width) = Some (glyph_at g id code p width ∷ [], width)
shown_in run g id code p (State.Virtual tfm vf) program (Some width) = run_packet run width p program

-- run says what packets give
abbrev pub shown : (Program → Place → Outcome) → Grid → FontSet → Option ℕ → ℤ → Place → Option (List Mark × ℤ)
shown run g set None z p = None
shown run g set (Some id) (negsuc n) p = None
shown run g set (Some id) (pos code) p = shown_in run g id code p (state_at set id) (program_at set id code) (width_at set id code)

abbrev pub sense : Grid → FontSet → Scope → Showing → Meaning
sense g set scope char = record { grid = g; space = space_of set; amount = amount_of scope.size; select = select set scope; char = char }

-- the marks of a frame, where the commands begin at this place in the first font
abbrev pub frame_by : Grid → FontSet → Showing → Program → Place → Outcome
frame_by g set char program p = marks_of (sense g set program.scope char) (tree_of program.commands) (start_in set program p)

-- undefined where a first font is named that isn't there
abbrev pub where_font : Option ℕ → Outcome → Outcome
where_font None o = None
where_font (Some id) o = o

abbrev pub first_there : FontSet → Option Named → Outcome → Outcome
first_there set None o = o
first_there set (Some f) o = where_font (id_of set f.key) o

-- what a character gives, where packets may be nested n deep from here on
unfoldable pub chars : Grid → FontSet → ℕ → Option ℕ → ℤ → Place → Option (List Mark × ℤ)
chars g set zero = shown (λ program p. None) g set
chars g set (suc n) = shown (λ program p. first_there set program.first (frame_by g set (chars g set n) program p)) g set

-- what the commands of a frame mean there
abbrev pub meaning : Grid → FontSet → ℕ → Scope → Meaning
meaning g set n scope = sense g set scope (chars g set n)

-- the same of a frame whose first font is there
abbrev pub frame_marks : Grid → FontSet → ℕ → Program → Place → Outcome
frame_marks g set n program p = frame_by g set (chars g set n) program p
