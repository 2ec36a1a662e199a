-- Marks that are kept in memory.
use Rattle.std.specs.Prelude.{List, map}
use Rattle.positions.specs.Mark.{Mark}
use Rattle.positions.specs.Mark.Mark.{OfSpecial}
use Rattle.positions.specs.MarkOf.{glyph_of, rule_of}
use Rattle.positions.specs.declared.mark_list.Kept.{Kept}
use Rattle.positions.specs.declared.mark_list.Kept.TheVariants as kept

-- the mark that is kept
abbrev pub mark_of : Kept → Mark
mark_of (kept.Glyph glyph) = glyph_of glyph
mark_of (kept.Rule rule) = rule_of rule
mark_of (kept.Special bytes x y h v) = OfSpecial (record { bytes = bytes.items; x = x; y = y; h = h; v = v })

-- all of them, the first one first
unfoldable pub marks_of : List Kept → List Mark
marks_of kept = map mark_of kept
