use Rattle.dvicopy_out.proofs.Same.{copy_keeps}
use Rattle.dvicopy_out.proofs.laws.copies_keep_pages.Goals as goal

pub returns : goal.returns
returns c = copy_keeps
