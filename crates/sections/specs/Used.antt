-- Which characters of a set of fonts were taken.
use Rattle.std.specs.Prelude.{◌≡◌, ◌<◌, ℕ, ◌+◌, ◌*◌, Bool, false, ◌||◌, ◌&&◌, List, [], ◌∷◌, nat_eq, slice_index_or}
use Rattle.positions.specs.Mark.{Mark, IsModerate}
use Rattle.positions.specs.Mark.Mark.{OfGlyph, OfRule, OfSpecial}
use Rattle.sections.specs.Below.{any_below, those_below}

-- How many fonts the set has, what each of their characters costs where it is used, and whether it was taken. The character of code c
-- in the font of number i stands at 256 i + c.
pub record Used : Type 0 where
  pub fonts : ℕ
  pub prices : List ℕ
  pub taken : List Bool

-- whether the character of this font and code was taken
abbrev pub is_used : Used → ℕ → ℕ → Bool
is_used u id code = slice_index_or u.taken (id * 256 + code) false

-- what it costs where it is used
abbrev pub price_of : Used → ℕ → ℕ → ℕ
price_of u id code = slice_index_or u.prices (id * 256 + code) 0

-- whether some character of the font was taken
abbrev pub uses_font : Used → ℕ → Bool
uses_font u id = any_below (is_used u id) 256

-- the codes of the font that were taken, the least one first
abbrev pub used_codes : Used → ℕ → List ℕ
used_codes u id = those_below (is_used u id) 256

-- the fonts of which some character was taken, by number
abbrev pub used_fonts : Used → List ℕ
used_fonts u = those_below (uses_font u) u.fonts

-- ---- what marks use

-- the mark is a glyph of this font and code
abbrev pub is_glyph : Mark → ℕ → ℕ → Bool
is_glyph (OfGlyph glyph) id code = nat_eq glyph.font id && nat_eq glyph.code code
is_glyph (OfRule rule) id code = false
is_glyph (OfSpecial special) id code = false

-- a glyph of this font and code is among the marks
abbrev pub used_in : List Mark → ℕ → ℕ → Bool
used_in [] id code = false
used_in (m ∷ ms) id code = is_glyph m id code || used_in ms id code

-- The fonts and prices are the same.
pub record SameFonts (old new : Used) : Type 0 where
  pub fonts : new.fonts ≡ old.fonts
  pub prices : new.prices ≡ old.prices

-- What was taken is what these marks use, and nothing else.
pub record HasTaken (u : Used) (marks : List Mark) : Type 0 where
  pub exactly : (id code : ℕ) → id < u.fonts → code < 256 → is_used u id code ≡ used_in marks id code

-- From the earlier to the later these marks were taken: what was taken then, and what they use.
pub record Takes (old new : Used) (marks : List Mark) : Type 0 where
  pub same : SameFonts old new
  pub exactly : (id code : ℕ) → id < old.fonts → code < 256 → is_used new id code ≡ (is_used old id code || used_in marks id code)

-- The later has what either of the others had, of the same fonts.
pub record Joined (old other new : Used) : Type 0 where
  pub same : SameFonts old new
  pub exactly : (id code : ℕ) → id < old.fonts → code < 256 → is_used new id code ≡ (is_used old id code || is_used other id code)

-- A glyph is of a font of the set.
abbrev pub IsGiven : ℕ → Mark → Type 0
IsGiven fonts (OfGlyph glyph) = glyph.font < fonts
IsGiven fonts (OfRule rule) = Unit {0}
IsGiven fonts (OfSpecial special) = Unit {0}

-- what can be taken
abbrev pub CanTake : Used → Mark → Type 0
CanTake u mark = IsModerate mark × IsGiven u.fonts mark
