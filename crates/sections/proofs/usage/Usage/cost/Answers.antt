use Rattle.std.proofs.Common.{◌≡◌, sym, subst}
use Rattle.sections.specs.Used.{Used, is_used}
use Rattle.sections.specs.Cost.{cost, IsPriced}
use Rattle.sections.proofs.Marking.{cost_is}
use Rattle.sections.proofs.usage.Usage.cost.Goals as goal

pub returns : goal.returns
returns c =
    let set = c.args.fonts.now in
    subst (λ (v : Used). c.self.inside.cost ≡ cost set (is_used v)) c.self.view_is
    (cost_is c.self.inside set c.self.invariant (subst (IsPriced set) (sym c.self.view_is) c.requires.priced))
