use Rattle.std.proofs.Common.{ap, ◌∙◌, sym, length}
use Rattle.dv_top.specs.Texts.{texts_in, total}
use Rattle.dv_top.proofs.Gathered.{texts_none, total_none}
use Rattle.dv_top.proofs.heads.Heads.new.Goals as goal

pub invariant_of-result : goal.invariant_of-result
invariant_of-result c = ap total c.new-2.ensures.items ∙ total_none ∙ sym (ap length c.new.ensures.items)

pub returns : goal.returns
returns c = (λ i. texts_in (c.new-2.ensures.items i) (c.new.ensures.items i)) ∙ texts_none
