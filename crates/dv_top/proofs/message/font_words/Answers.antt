use Rattle.dv_top.proofs.message.font_words.Goals as goal

pub returns-in-GlyphTooBig : goal.returns-in-GlyphTooBig
returns-in-GlyphTooBig c = rw c.in-GlyphTooBig.is c.pair.ensures
