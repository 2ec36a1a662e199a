use Rattle.std.proofs.Common.{refl}
use Rattle.positions.proofs.Lists.{marks_of-push}
use Rattle.positions.proofs.mark_list.MarkListCanvas.rule.Goals as goal

pub returns-clause-ok : goal.returns-clause-ok
returns-clause-ok c = rw (← c.self.view_is, c.in_ok-push.ensures.items, marks_of-push) refl
