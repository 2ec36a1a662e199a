-- The marks that the program's values stand for.
use Rattle.positions.specs.Mark.{Mark}
use Rattle.positions.specs.Mark.Mark.{OfGlyph, OfRule, OfSpecial}
use Rattle.positions.specs.declared.mark.GlyphMark.{GlyphMark}
use Rattle.positions.specs.declared.mark.RuleMark.{RuleMark}
use Rattle.positions.specs.declared.mark.SpecialMark.{SpecialMark}

abbrev pub glyph_of : GlyphMark → Mark
glyph_of m = OfGlyph (record { font = m.font; code = m.code; x = m.x; y = m.y; h = m.h; v = m.v; width = m.width; pixels = m.pixels })

abbrev pub rule_of : RuleMark → Mark
rule_of m = OfRule (record { x = m.x; y = m.y; columns = m.w; rows = m.rows; h = m.h; v = m.v; a = m.a; b = m.b })

abbrev pub special_of : SpecialMark → Mark
special_of m = OfSpecial (record { bytes = m.bytes.now; x = m.x; y = m.y; h = m.h; v = m.v })
