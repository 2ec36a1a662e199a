use Rattle.sample_files.proofs.Counts.{begun, glyphs_more, glyphs_none, grown}
use Rattle.sample_files.proofs.pk_file.put_glyphs.Goals as goal

pub loop-number-init : goal.loop-number-init
loop-number-init c = begun _ _ glyphs_none

pub loop-number-preserved : goal.loop-number-preserved
loop-number-preserved c =
    grown _ _ _ _ _ _ c.loop-number.invariant c.in_ok-put_glyph.ensures (glyphs_more c.loop-number.number)
