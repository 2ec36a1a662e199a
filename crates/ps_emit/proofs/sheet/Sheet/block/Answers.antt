use Rattle.std.proofs.Common.{append_assoc, refl}
use Rattle.ps_emit.proofs.sheet.Sheet.block.Goals as goal

pub returns-clause-value : goal.returns-clause-value
returns-clause-value c = rw (c.announced.ensures.value, c.reach.ensures.value, c.clear.ensures) (simp append_assoc refl)
