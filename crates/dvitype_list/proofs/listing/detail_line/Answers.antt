use Rattle.std.proofs.Common.{◌++◌, [], sym}
use Rattle.std.proofs.lemmas.List.{append-nil}
use Rattle.dvitype_list.proofs.Gathering.{gathered_is}
use Rattle.dvitype_list.proofs.listing.detail_line.Goals as goal

pub returns-then-detail-clause-ok : goal.returns-then-detail-clause-ok
returns-then-detail-clause-ok g c = rw c.if-detail.true c.command_line.ensures.ok

pub returns-then-detail-clause-cut : goal.returns-then-detail-clause-cut
returns-then-detail-clause-cut g c = rw c.if-detail.true c.command_line.ensures.cut

pub returns-else-detail-clause-ok : goal.returns-else-detail-clause-ok
returns-else-detail-clause-ok g c = rw c.if-detail.false (λ first text h. gathered_is first _ _ text (text ++ []) (sym (append-nil text)) h)
