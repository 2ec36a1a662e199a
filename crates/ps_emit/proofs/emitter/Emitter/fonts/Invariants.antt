use Rattle.std.proofs.Common.{◌≡◌, ◌<◌, length}
use Rattle.sections.specs.Below.{any_below, those_below}
use Rattle.sections.specs.Used.{is_used}
use Rattle.ps_subset.specs.FontText.{fonts_lines}
use Rattle.ps_emit.specs.Letters.{some_fonts}
use Rattle.ps_emit.specs.Shown.{Holds, fonts_of, out_of, sheet_of}
use Rattle.ps_emit.specs.Written.{Wrote}
use Rattle.ps_emit.proofs.emitter.Emitter.fonts.Given as goal

abbrev pub invariant-loop-number : goal.invariant-loop-number
invariant-loop-number g l = record {
  begun : 0 < (out_of l.self).seen.begun;
  same : l.usage.fonts ≡ length (fonts_of l.self).fonts;
  wrote : Wrote (fonts_lines (some_fonts (fonts_of l.fn.self) (is_used l.usage) (those_below (λ id. any_below (is_used l.usage id) 256) l.number))) (out_of l.fn.self) (out_of l.self);
  holds : Holds l.fn.self l.self;
  sheet : sheet_of l.self ≡ sheet_of l.fn.self;
}
