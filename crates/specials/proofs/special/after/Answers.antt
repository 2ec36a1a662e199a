use Rattle.std.proofs.lemmas.Slice.Eq.{strip_prefix_is}
use Rattle.std.proofs.lemmas.Bool.Decides.{Decides-eqb}
use Rattle.specials.proofs.After.{after_by}
use Rattle.specials.proofs.special.after.Goals as goal

pub returns : goal.returns
returns c = after_by c.args.key.now c.args.text.now c.strip_prefix.result (strip_prefix_is Decides-eqb c.args.text.now c.args.key.now c.strip_prefix.result c.strip_prefix.ensures.cases)
