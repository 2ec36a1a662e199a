use Rattle.std.proofs.Common.{take}
use Rattle.dvi_doc.specs.Grammar.{AllAmong}
use Rattle.dvi_doc.specs.Standing.{definitions_at, fonts_in}
use Rattle.dvi_doc.proofs.fonts.Fonts.check.Given as goal

abbrev pub invariant-loop-font : goal.invariant-loop-font
invariant-loop-font l = AllAmong (fonts_in l.self) (definitions_at l.self.bytes (take l.font-index l.earlier))
