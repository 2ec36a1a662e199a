use Rattle.pk_raster.proofs.OneFont.{one_font}
use Rattle.pk_raster.proofs.laws.one_font.Goals as goal

pub returns : goal.returns
returns c = one_font
