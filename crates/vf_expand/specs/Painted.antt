-- The glyphs that a walk paints.
use Rattle.std.specs.Prelude.{◌≡◌, ◌<◌, ℕ, List, length, Some, None}
use Rattle.dv_base.specs.Rounding.{rounded}
use Rattle.positions.specs.Mark.{Glyph}
use Rattle.font_set.specs.Fonts.{State, FontSet, state_at, width_at}
use Rattle.font_set.specs.Frames.{FontAct}
use Rattle.font_set.specs.Covers.{IsShown, IsSet}
use Rattle.vf_expand.specs.Grid.{Grid}
use Rattle.vf_expand.specs.Marks.{Outcome}
use Rattle.vf_expand.specs.Takes.{AllCome}

-- The font is real and loaded, and has what the glyph needs: a width, and a bitmap where the font's bitmaps are loaded.
abbrev pub IsGlyphOf : State → ℕ → Type 0
IsGlyphOf State.Known code = ⊥
IsGlyphOf (State.Real tfm pk) code = IsShown (State.Real tfm pk) code
IsGlyphOf (State.Virtual tfm vf) code = ⊥

-- The font of the glyph is one of the set and has the glyph; its code is a byte, and its width, in units and in pixels, is the font's.
pub record HasGlyph (g : Grid) (set : FontSet) (glyph : Glyph) : Type 0 where
  pub given : glyph.font < length set.fonts
  pub small : glyph.code < 256
  pub shown : IsGlyphOf (state_at set glyph.font) glyph.code
  pub width : width_at set glyph.font glyph.code ≡ Some glyph.width
  pub pixels : glyph.pixels ≡ rounded g.across glyph.width

-- The glyph is of a character that is set in a frame that these acts reach, and its font has it.
abbrev pub IsPainted : Grid → FontSet → List FontAct → Glyph → Type 0
IsPainted g set acts glyph = IsSet set acts glyph.font glyph.code × HasGlyph g set glyph

-- Each mark has numbers that are not too large, a rule has a column and a row at least, and of a glyph the font has it.
abbrev pub AreComing : Grid → FontSet → Outcome → Type 0
AreComing g set None = Unit {0}
AreComing g set (Some r) = AllCome (HasGlyph g set) r.0
