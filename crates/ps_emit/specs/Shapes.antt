-- What the marks of a page are in the text: letters of fonts, rules, and the blocks of literal specials, where these are passed on.
use Rattle.std.specs.Prelude.{ℕ, Bool, true, false, List, [], ◌∷◌, ◌++◌, Option, Some, None}
use Rattle.positions.specs.Mark as mark
use Rattle.positions.specs.Mark.Mark.{OfGlyph, OfRule, OfSpecial}
use Rattle.specials.specs.Special.{Meaning, special_of}
use Rattle.specials.specs.Special.Meaning.{Paper, BadPaper, Header, Literal, Unknown}
use Rattle.font_set.specs.Fonts.{FontSet}
use Rattle.ps_subset.specs.Fonts.{Letter}
use Rattle.ps_subset.specs.Marks.{Mark, Glyph, Bar, Passed}
use Rattle.ps_emit.specs.Letters.{letter_at}

-- the text of a special that is a literal one
abbrev pub literal_of : Meaning → Option (List ℕ)
literal_of (Literal text) = Some text
literal_of (Paper width height) = None
literal_of BadPaper = None
literal_of (Header name) = None
literal_of Unknown = None

-- what is passed on of a special: the text of a literal one, where literal ones are passed on
abbrev pub passed_on : Bool → List ℕ → Option (List ℕ)
passed_on true bytes = literal_of (special_of bytes)
passed_on false bytes = None

abbrev pub glyph_shape : Option Letter → mark.Glyph → List Mark
glyph_shape None g = []
glyph_shape (Some l) g = Glyph g.font l g.x g.y ∷ []

abbrev pub special_shape : Option (List ℕ) → mark.Special → List Mark
special_shape None s = []
special_shape (Some text) s = Passed text s.x s.y ∷ []

-- what a mark is in the text; a special that isn't passed on is nothing
abbrev pub shape_of : FontSet → Bool → mark.Mark → List Mark
shape_of set pass (OfGlyph g) = glyph_shape (letter_at set g.font g.code) g
shape_of set pass (OfRule r) = Bar r.columns r.rows r.x r.y ∷ []
shape_of set pass (OfSpecial s) = special_shape (passed_on pass s.bytes) s

abbrev pub shapes_of : FontSet → Bool → List mark.Mark → List Mark
shapes_of set pass [] = []
shapes_of set pass (m ∷ ms) = shape_of set pass m ++ shapes_of set pass ms
