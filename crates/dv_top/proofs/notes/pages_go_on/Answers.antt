use Rattle.dv_top.proofs.GoingOn.{pages_on}
use Rattle.dv_top.proofs.notes.pages_go_on.Goals as goal

pub returns : goal.returns
returns c = pages_on
