use Rattle.std.proofs.Common.{◌≡◌, sym, subst, ◌∙◌, ap}
use Rattle.sections.specs.Used.{Used, Joined}
use Rattle.sections.proofs.Marking.{joined_is}
use Rattle.sections.proofs.usage.Usage.join.Goals as goal

pub returns : goal.returns
returns c =
    subst (λ (v : Used). Joined c.args.self.now v c.take_all.new.self) c.other.view_is
    (joined_is c.other.inside c.args.self.now c.take_all.new.self c.deref.result.now c.other.invariant (ap (λ (v : Used). v.fonts) c.other.view_is ∙ c.requires.fonts) c.deref.ensures.value
    c.take_all.ensures.same c.take_all.ensures.taken)
