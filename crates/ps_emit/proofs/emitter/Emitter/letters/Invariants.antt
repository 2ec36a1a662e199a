use Rattle.std.proofs.Common.{◌≡◌, ◌<◌, length}
use Rattle.sections.specs.Below.{those_below}
use Rattle.sections.specs.Used.{is_used}
use Rattle.ps_subset.specs.FontText.{letter_lines}
use Rattle.ps_emit.specs.Letters.{letters_of}
use Rattle.ps_emit.specs.Shown.{Holds, fonts_of, out_of, sheet_of}
use Rattle.ps_emit.specs.Written.{Wrote}
use Rattle.ps_emit.proofs.emitter.Emitter.letters.Given as goal

abbrev pub invariant-loop-number : goal.invariant-loop-number
invariant-loop-number g l = record {
  begun : 0 < (out_of l.self).seen.begun;
  given : l.id < length (fonts_of l.self).fonts;
  wrote : Wrote (letter_lines (letters_of (fonts_of l.fn.self) l.id (those_below (is_used l.usage l.id) l.number))) (out_of l.fn.self) (out_of l.self);
  holds : Holds l.fn.self l.self;
  sheet : sheet_of l.self ≡ sheet_of l.fn.self;
}
