use Rattle.std.proofs.Common.{ℕ, ℤ, inr}
use Rattle.std.proofs.lemmas.List.Sorted.{searchable_from_sorted}
use Rattle.dv_words.proofs.Index.{total}
use Rattle.dv_words.proofs.page_index.near.Goals as goal

pub returns-in-Err-clause-near : goal.returns-in-Err-clause-near
returns-in-Err-clause-near c = inr (c.in-Err.ensures.position (searchable_from_sorted total (λ (t : ℤ × ℕ). t) c.args.pairs.now c.args.pair c.requires))
