use Rattle.dv_words.proofs.Index.{IsPaired}
use Rattle.dv_words.proofs.page_index.index_of.Given as goal

abbrev pub invariant-loop-place : goal.invariant-loop-place
invariant-loop-place l = IsPaired l.numbers l.pairs.items l.place
