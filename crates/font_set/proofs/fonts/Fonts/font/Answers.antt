use Rattle.std.proofs.Common.{sym}
use Rattle.font_set.specs.Stored.{entry_of}
use Rattle.font_set.proofs.Stores.{state_is}
use Rattle.font_set.proofs.fonts.Fonts.font.Goals as goal

pub returns-clause-value : goal.returns-clause-value
returns-clause-value c = sym (state_is c.args.self.now c.args.id (entry_of (c.entry.result.0.now, c.entry.result.1.now)) c.entry.ensures.value)

pub returns-clause-sound : goal.returns-clause-sound
returns-clause-sound c = c.entry.ensures.stored.sound
