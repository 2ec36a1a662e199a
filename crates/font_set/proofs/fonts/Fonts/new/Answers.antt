use Rattle.font_set.proofs.Stores.{nothing_stored}
use Rattle.font_set.proofs.fonts.Fonts.new.Goals as goal

pub invariant_of-result : goal.invariant_of-result
invariant_of-result c = let n = nothing_stored c.new.result.entries c.new.ensures.empty in (c.requires.units, c.requires.conv, n.0, n.1, n.2 c.args.want)
