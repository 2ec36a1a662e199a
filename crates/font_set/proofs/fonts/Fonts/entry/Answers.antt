use Rattle.font_set.specs.Stored.{entry_of, entries_of}
use Rattle.font_set.proofs.Stores.{get_entry, stored_at}
use Rattle.font_set.proofs.fonts.Fonts.entry.Goals as goal

pub returns-clause-stored : goal.returns-clause-stored
returns-clause-stored c =
    stored_at (entries_of c.self.inside.table.entries) c.number.result (entry_of (c.in-Some.entry.0.now, c.in-Some.entry.1.now)) c.self.invariant.2.each
    (get_entry c.self.inside.table.entries c.number.result c.in-Some.entry.0.now c.in-Some.entry.1.now c.in-Some.ensures.entry)
