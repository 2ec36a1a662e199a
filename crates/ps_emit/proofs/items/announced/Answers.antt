use Rattle.std.proofs.Common.{append_assoc, refl}
use Rattle.ps_emit.proofs.items.announced.Goals as goal

pub returns-clause-value : goal.returns-clause-value
returns-clause-value c = rw (c.text-2.ensures.value, c.number.ensures.value, c.text.ensures.value) (simp append_assoc refl)
