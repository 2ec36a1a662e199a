use Rattle.std.proofs.Common.{◌≡◌, ◌<◌, length}
use Rattle.ps_emit.specs.Shown.{fonts_of, out_of}
use Rattle.ps_emit.proofs.tests.run.Given as goal

abbrev pub invariant-loop-step : goal.invariant-loop-step
invariant-loop-step l = record {
  begun : 0 < (out_of l.emitter).seen.begun;
  same : fonts_of l.emitter ≡ l.fonts;
  used : l.usage.fonts ≡ length l.fonts.fonts;
}
