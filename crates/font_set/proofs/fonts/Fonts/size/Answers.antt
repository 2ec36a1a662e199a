use Rattle.std.proofs.Common.{ap, ◌∙◌}
use Rattle.font_set.specs.Key.{Key}
use Rattle.font_set.proofs.Stores.{size_key}
use Rattle.font_set.proofs.fonts.Fonts.size.Goals as goal

pub returns-clause-value : goal.returns-clause-value
returns-clause-value c = ap (λ (k : Key). k.size) c.key.ensures.value ∙ size_key c.args.self.now c.args.id
