use Rattle.std.proofs.Common.{take, map, ◌≡◌, ◌<◌}
use Rattle.ps_subset.specs.Blocks.{headers_lines}
use Rattle.ps_emit.specs.Shown.{Holds, out_of, sheet_of}
use Rattle.ps_emit.specs.Written.{Wrote}
use Rattle.ps_emit.proofs.emitter.Emitter.blocks.Given as goal

abbrev pub invariant-loop-header : goal.invariant-loop-header
invariant-loop-header g l = record {
  begun : 0 < (out_of l.self).seen.begun;
  wrote : Wrote (headers_lines (map (λ h. h.items) (take l.header-index l.headers))) (out_of l.fn.self) (out_of l.self);
  holds : Holds l.fn.self l.self;
  sheet : sheet_of l.self ≡ sheet_of l.fn.self;
}
