-- How a font stands in the store of the machine, and what the prolog gives to it.
use Rattle.std.specs.Prelude.{ℕ, ◌≡◌, List, [], ◌∷◌, pos, ◌-ℤ◌, neg_ℤ, Some, codes, slice_get, replicate}
use Rattle.ps_subset.specs.Fraction.{whole}
use Rattle.ps_subset.specs.State.{Object, Number, Truth, Literal, Array, Null, Entry, Cell, Elements, Entries, entry}
use Rattle.ps_subset.specs.Run.{Value, meaning_in}
use Rattle.ps_subset.specs.Conditions.{number, name, procedure, font_matrix_cell}
use Rattle.ps_subset.specs.Fonts.{printed, Glyph, Letter, IsGoodGlyph}
use Rattle.ps_subset.specs.Token as token

-- what stands between the brackets of a glyph's line, where its matrix is the array at a given place
abbrev pub glyph_elements : Glyph → ℕ → List Object
glyph_elements g matrix =
    number g.columns ∷ number g.rows ∷ Truth ∷ Array matrix ∷ procedure (token.Text g.bytes ∷ []) ∷ Number (whole g.width) ∷ number 0 ∷
    Number (whole (neg_ℤ g.hoff)) ∷ Number (whole (neg_ℤ g.voff)) ∷ Number (whole (pos g.columns -ℤ g.hoff)) ∷ Number (whole (pos g.rows -ℤ g.voff)) ∷ []

abbrev pub shift_cell : Glyph → Cell
shift_cell g = Elements (number 1 ∷ number 0 ∷ number 0 ∷ number 1 ∷ Number (whole g.hoff) ∷ Number (whole g.voff) ∷ [])

-- The dictionary at d is a font that the prolog's FB and E have made, with this key, and its glyphs stand in the array at a given place.
pub record IsFont (key : List ℕ) (d glyphs : ℕ) (store : List Cell) : Type 0 where
  pub matrix : ℕ
  pub room : ℕ
  pub entries : List Entry
  pub dictionary_is : slice_get store d ≡ Some (Entries room entries)
  pub type_is : entry (codes "FontType") entries ≡ Some (number 3)
  pub matrix_stands : entry (codes "FontMatrix") entries ≡ Some (Array matrix)
  pub matrix_is : slice_get store matrix ≡ Some font_matrix_cell
  pub key_is : entry (codes "FID") entries ≡ Some (Literal key)
  pub build_is : entry (codes "BuildChar") entries ≡ Some (procedure (name (codes "CB") ∷ []))
  pub glyphs_are : entry (codes "GA") entries ≡ Some (Array glyphs)

-- the array holds this letter
pub record HoldsLetter (glyphs : ℕ) (l : Letter) (store : List Cell) : Type 0 where
  pub table : List Object
  pub place : ℕ
  pub matrix : ℕ
  pub table_is : slice_get store glyphs ≡ Some (Elements table)
  pub at : slice_get table l.code ≡ Some (Array place)
  pub is : slice_get store place ≡ Some (Elements (glyph_elements (printed l.glyph) matrix))
  pub matrix_is : slice_get store matrix ≡ Some (shift_cell (printed l.glyph))

abbrev pub AllHeld : ℕ → List Letter → List Cell → Type 0
AllHeld glyphs [] store = Unit {0}
AllHeld glyphs (l ∷ ls) store = HoldsLetter glyphs l store × IsGoodGlyph (printed l.glyph) × AllHeld glyphs ls store

-- The arrays that FB puts into a font.
pub record HasFontArrays (fm fx en : ℕ) (store : List Cell) (ds : List ℕ) : Type 0 where
  pub FM_stands : meaning_in store ds (codes "FM") ≡ Value (Array fm)
  pub FX_stands : meaning_in store ds (codes "FX") ≡ Value (Array fx)
  pub EN_stands : meaning_in store ds (codes "EN") ≡ Value (Array en)
  pub FM_is : slice_get store fm ≡ Some font_matrix_cell

-- a font's dictionary as FB makes it
abbrev pub font_entries : ℕ → ℕ → ℕ → ℕ → List Entry
font_entries fm fx en glyphs =
    record { key = codes "FontType"; value = number 3 } ∷ record { key = codes "FontMatrix"; value = Array fm } ∷ record { key = codes "FontBBox"; value = Array fx } ∷
    record { key = codes "Encoding"; value = Array en } ∷ record { key = codes "BuildChar"; value = procedure (name (codes "CB") ∷ []) } ∷ record { key = codes "GA"; value = Array glyphs } ∷ []

-- the two cells of a new font, of which the second is to stand at a given place
abbrev pub font_cells : ℕ → ℕ → ℕ → ℕ → List Cell
font_cells fm fx en glyphs = Entries 8 (font_entries fm fx en glyphs) ∷ Elements (replicate 256 Null) ∷ []
