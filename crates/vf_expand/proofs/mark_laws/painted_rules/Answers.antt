use Rattle.vf_expand.proofs.Painting.{rules_painted}
use Rattle.vf_expand.proofs.mark_laws.painted_rules.Goals as goal

pub returns : goal.returns
returns c = rules_painted
