use Rattle.ps_emit.proofs.Joined.{calls_make_text}
use Rattle.ps_emit.proofs.laws.calls_make_text.Goals as goal

pub returns : goal.returns
returns c = calls_make_text
