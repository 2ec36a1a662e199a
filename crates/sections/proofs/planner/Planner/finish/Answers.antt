use Rattle.std.proofs.Common.{ap, ◌∙◌}
use Rattle.sections.specs.Planned.{Planning}
use Rattle.sections.proofs.Planning.{finished}
use Rattle.sections.proofs.planner.Planner.finish.Goals as goal

pub returns : goal.returns
returns c = record { plan = λ set pages h. ap (λ (p : Planning). p.lengths) c.self.view_is ∙ finished set c.args.self pages h }
