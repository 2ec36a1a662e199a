use Rattle.vf_expand.proofs.OnGrids.{on_grids, pages_exact, units_stay}
use Rattle.vf_expand.proofs.mark_laws.exact_pages.Goals as goal

pub returns : goal.returns
returns c = record { exact = pages_exact; units = units_stay; grids = on_grids }
