use Rattle.std.proofs.Common.{rules, inr, ◌∙◌}
use Rattle.dv_base.specs.FileTray.{seen_of}
use Rattle.texdvi.proofs.run.Goals as goal

pub returns-in-Err : goal.returns-in-Err
returns-in-Err g c = (
  c.run_tool-outcome.result,
  seen_of c.run_tool-outcome.new.tray,
  c.run_tool-outcome.ensures.run,
  inr (seen_of c.finish.new.self, c.in-Err.ensures.failed, c.say.ensures, c.from-in-Err.ensures ∙ c.status-in-Err.ensures),
)
