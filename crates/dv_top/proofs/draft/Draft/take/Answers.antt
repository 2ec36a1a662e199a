use Rattle.std.proofs.Common.{◌≡◌, false, sym, subst}
use Rattle.std.specs.Option.{is_some}
use Rattle.dv_top.specs.Planning.{Drafted, HasDrafted}
use Rattle.dv_top.proofs.Drafted.{drafted_page, faulted_page}
use Rattle.dv_top.proofs.draft.Draft.take.Goals as goal

pub returns-in-Err : goal.returns-in-Err
returns-in-Err c = λ budget most pages marks h counted taken.
    let d : Drafted = record { planning = c.self.inside.planner; fault = c.self.inside.fault } in
    faulted_page c.args.fonts.now budget most d c.page.new.self c.args.usage.now c.args.page c.in-Err.fault pages marks c.in-Err.ensures.same (subst (λ (x : Drafted). HasDrafted c.args.fonts.now budget most x pages) (sym c.self.view_is) h) counted c.requires.priced taken
    c.in-Err.ensures.fault

pub returns-in_default : goal.returns-in_default
returns-in_default c = λ budget most pages marks h counted taken.
    let d : Drafted = record { planning = c.self.inside.planner; fault = c.self.inside.fault } in
    let none : is_some c.self.inside.fault ≡ false = sym c.if-is_some.ensures in
    drafted_page c.args.fonts.now budget most d c.page.new.self c.self.inside.fault c.args.usage.now pages marks none none (subst (λ (x : Drafted). HasDrafted c.args.fonts.now budget most x pages) (sym c.self.view_is) h) c.requires.priced taken c.in_default.ensures.planned
    c.in_default.ensures.given c.page.ensures.budget c.page.ensures.most c.in_default.ensures.within
