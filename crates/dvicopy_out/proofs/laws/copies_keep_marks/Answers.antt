use Rattle.dvicopy_out.proofs.Keeping.{keeps_marks}
use Rattle.dvicopy_out.proofs.laws.copies_keep_marks.Goals as goal

pub returns : goal.returns
returns c = keeps_marks c.exact_pages.ensures.exact c.exact_pages.ensures.grids c.copies_keep_pages.ensures
