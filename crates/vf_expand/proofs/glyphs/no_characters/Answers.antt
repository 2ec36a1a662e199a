use Rattle.std.proofs.Common.{rules}
use Rattle.vf_expand.proofs.Kept.{none_met}
use Rattle.vf_expand.proofs.glyphs.no_characters.Goals as goal

pub returns-clause-pages : goal.returns-clause-pages
returns-clause-pages c = none_met 4096 c.nothing.result c.in_ok-met.met.items c.nothing.ensures (c.in_ok-met.ensures.items_if_clones_equal (λ y e. search rules))
