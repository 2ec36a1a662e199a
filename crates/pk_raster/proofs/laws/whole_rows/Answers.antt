use Rattle.pk_raster.proofs.OneFont.{whole_rows}
use Rattle.pk_raster.proofs.laws.whole_rows.Goals as goal

pub returns : goal.returns
returns c = whole_rows
