use Rattle.std.proofs.Common.{refl}
use Rattle.font_set.specs.Programs.{first_font}
use Rattle.vf_expand.proofs.met.Glyphs.first.Goals as goal

pub returns-in-Page-clause-value : goal.returns-in-Page-clause-value
unfolding first_font
returns-in-Page-clause-value c = λ cs. rw c.in-Page.is refl

pub returns-in-Packet-clause-value : goal.returns-in-Packet-clause-value
unfolding first_font
returns-in-Packet-clause-value c = λ cs. rw c.in-Packet.is (c.start.ensures.value c.args.frame.now.grid c.requires.met)
