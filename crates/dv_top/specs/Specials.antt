-- The specials of pages. A page is given by its marks.
use Rattle.std.specs.Prelude.{ℕ, List, [], ◌∷◌, ◌++◌}
use Rattle.positions.specs.Mark.{Mark}
use Rattle.positions.specs.Mark.Mark.{OfGlyph, OfRule, OfSpecial}

-- the bytes of the specials among marks
abbrev pub specials_in : List Mark → List (List ℕ)
specials_in [] = []
specials_in (OfGlyph glyph ∷ ms) = specials_in ms
specials_in (OfRule rule ∷ ms) = specials_in ms
specials_in (OfSpecial special ∷ ms) = special.bytes ∷ specials_in ms

-- those of pages, one after another
abbrev pub specials_of : List (List Mark) → List (List ℕ)
specials_of [] = []
specials_of (page ∷ pages) = specials_in page ++ specials_of pages

-- the first and the last page, without marks where there is none
abbrev pub first_page : List (List Mark) → List Mark
first_page [] = []
first_page (page ∷ pages) = page

abbrev pub last_page : List (List Mark) → List Mark
last_page [] = []
last_page (page ∷ []) = page
last_page (page ∷ next ∷ pages) = last_page (next ∷ pages)
