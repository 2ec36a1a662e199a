use Rattle.specials.proofs.Names.{name_is_text}
use Rattle.specials.proofs.special.read_header.Goals as goal

pub unreachable-requires : goal.unreachable-requires
unreachable-requires c = c.in-Err.ensures.cases.0 (name_is_text c.args.name.now (cc c.is_file_name.ensures))
