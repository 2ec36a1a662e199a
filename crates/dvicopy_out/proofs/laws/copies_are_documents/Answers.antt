use Rattle.dvicopy_out.proofs.Documented.{copy_is_document}
use Rattle.dvicopy_out.proofs.Spellable.{spellable}
use Rattle.dvicopy_out.proofs.laws.copies_are_documents.Goals as goal

pub returns : goal.returns
returns c = λ w ps put. copy_is_document c.shortest_spelling.ensures w ps (spellable w ps put)
