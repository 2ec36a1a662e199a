use Rattle.dvicopy_out.proofs.Cutting.{cuts_hold}
use Rattle.dvicopy_out.proofs.laws.cuts_hold_first_pages.Goals as goal

pub returns : goal.returns
returns c = cuts_hold c.one_spelling.ensures c.shortest_spelling.ensures
