use Rattle.std.proofs.Common.{sym}
use Rattle.font_set.specs.Stored.{entry_of}
use Rattle.font_set.proofs.Stores.{key_is, stands}
use Rattle.font_set.proofs.fonts.Fonts.key.Goals as goal

pub returns-clause-value : goal.returns-clause-value
returns-clause-value c = sym (key_is c.args.self.now c.args.id (entry_of (c.entry.result.0.now, c.entry.result.1.now)) c.entry.ensures.value)

pub returns-clause-stands : goal.returns-clause-stands
returns-clause-stands c = stands c.args.self.now c.args.id (entry_of (c.entry.result.0.now, c.entry.result.1.now)) c.entry.ensures.value

pub returns-clause-key : goal.returns-clause-key
returns-clause-key c = c.entry.ensures.stored.key
