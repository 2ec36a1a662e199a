use Rattle.vf_expand.proofs.Paging.{page_at}
use Rattle.vf_expand.proofs.laws.pages_by_place.Goals as goal

pub returns : goal.returns
returns c = page_at c.one_document.ensures c.one_reading.ensures
