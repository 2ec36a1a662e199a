use Rattle.std.proofs.Common.{sym, subst}
use Rattle.dv_top.specs.Planning.{Drafted, HasDrafted}
use Rattle.dv_top.proofs.Drafted.{finished_whole}
use Rattle.dv_top.proofs.draft.Draft.finish.Goals as goal

pub returns-in-None-clause-last : goal.returns-in-None-clause-last
returns-in-None-clause-last c = λ set budget most pages h.
    let d : Drafted = record { planning = c.self.inside.planner; fault = c.self.inside.fault } in
    let whole = finished_whole set budget most d pages c.in-None.is (subst (λ (x : Drafted). HasDrafted set budget most x pages) (sym c.self.view_is) h) in
    c.into_parts.ensures.last set pages whole.planned
