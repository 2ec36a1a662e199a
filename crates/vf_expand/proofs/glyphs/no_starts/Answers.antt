use Rattle.std.proofs.Common.{rules}
use Rattle.vf_expand.proofs.Kept.{none_started}
use Rattle.vf_expand.proofs.glyphs.no_starts.Goals as goal

pub returns-clause-pages : goal.returns-clause-pages
returns-clause-pages c = none_started 16 c.in_ok-starts.starts.items (c.in_ok-starts.ensures.items_if_clones_equal (λ y e. search rules))
