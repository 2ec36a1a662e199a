use Rattle.std.proofs.Common.{◌-◌, length, sym}
use Rattle.std.proofs.lemmas.Option.{get_or_from_slice_get}
use Rattle.sections.proofs.planner.last_count.Goals as goal

pub returns-in-Some : goal.returns-in-Some
returns-in-Some c = sym (get_or_from_slice_get c.args.lengths.now (length c.args.lengths.now - 1) c.in-Some.count.now 0 (sym c.in-Some.ensures.value))
