use Rattle.font_set.proofs.Looks.{mismatch_is}
use Rattle.font_set.proofs.fonts.Fonts.mismatch.Goals as goal

pub returns : goal.returns
returns c = mismatch_is c.args.self.now c.args.id c.entry.result.0.now c.entry.result.1.now c.is_mismatched.result c.entry.ensures.value c.is_mismatched.ensures
