use Rattle.dvi_ops.specs.View.{view}
use Rattle.dvi_ops.proofs.FirstOf.{can_read, is_first}
use Rattle.dvi_ops.proofs.following.command_at.Goals as goal

pub unreachable-requires : goal.unreachable-requires
unreachable-requires c =
    let whole = c.requires.whole in
    can_read c.args.bytes.now whole.0 c.args.at whole.1 c.requires.inside whole.2 c.in-Err.ensures.none

pub returns-clause-first : goal.returns-clause-first
returns-clause-first c = λ from commands l.
    (let f = c.in-Ok.ensures.found in is_first c.args.bytes.now from c.args.at c.in-Ok.found.1 (view c.in-Ok.found.0) commands f.0 f.1 f.2 l)
