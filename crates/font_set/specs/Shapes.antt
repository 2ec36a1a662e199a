-- What a set of fonts tells of characters: the width of each, and the packet where the font is virtual.
use Rattle.std.specs.Prelude.{ℕ, ℤ, Option, Some, None}
use Rattle.font_set.specs.Fonts.{State, FontSet, place_of, state_at, width_at}
use Rattle.font_set.specs.Programs.{Program, program_at}
use Rattle.font_set.specs.Expand.{Shape, Shapes}

-- what a set tells of a character
abbrev pub shape_by : State → Option Program → Option ℤ → Option Shape
shape_by s program None = None
shape_by State.Known program (Some width) = None
shape_by (State.Real tfm pk) program (Some width) = Some (Shape.OfGlyph width)
shape_by (State.Virtual tfm vf) None (Some width) = None
shape_by (State.Virtual tfm vf) (Some program) (Some width) = Some (Shape.OfBox width program)

abbrev pub shape_at : FontSet → Option ℕ → ℕ → Option Shape
shape_at set None code = None
shape_at set (Some id) code = shape_by (state_at set id) (program_at set id code) (width_at set id code)

abbrev pub shapes_of : FontSet → Shapes
shapes_of set key code = shape_at set (place_of set.fonts key) code
