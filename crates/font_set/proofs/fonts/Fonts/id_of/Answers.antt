use Rattle.std.proofs.Common.{sym}
use Rattle.dvi_ops.specs.View.{def_view}
use Rattle.font_set.specs.Programs.{key_by}
use Rattle.font_set.proofs.Ids.{id_below}
use Rattle.font_set.proofs.fonts.Fonts.id_of.Goals as goal

pub returns-then-is_font-clause-given : goal.returns-then-is_font-clause-given
returns-then-is_font-clause-given c = id_below c.args.self.now.fonts (key_by (def_view c.args.font.now)) c.in-Some.id (c.is_font.ensures.0 c.if-is_font.true)

pub returns-then-is_font-clause-value : goal.returns-then-is_font-clause-value
returns-then-is_font-clause-value c = sym (c.is_font.ensures.0 c.if-is_font.true)
