use Rattle.dvi_doc.proofs.OneFile.{one_document}
use Rattle.dvi_doc.proofs.laws.one_document.Goals as goal

pub returns : goal.returns
returns c = one_document c.one_spelling.ensures
