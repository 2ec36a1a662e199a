use Rattle.std.proofs.Common.{List, ℕ, ◌≡◌, ◌<◌, ◌++◌, length}
use Rattle.ps_subset.specs.FontText.{hex_text}
use Rattle.ps_emit.specs.Shown.{Holds, out_of, sheet_of}
use Rattle.ps_emit.specs.Pending.{Ahead}
use Rattle.ps_emit.proofs.HexRows.{room}
use Rattle.ps_emit.proofs.emitter.Emitter.rows.Given as goal

abbrev pub invariant-loop-rest : goal.invariant-loop-rest
invariant-loop-rest g l = record {
  begun : 0 < (out_of l.self).seen.begun;
  done : List ℕ;
  ahead : Ahead (l.fn.self.line ++ done) l.fn.self l.self;
  whole : done ++ hex_text (room l.follows) l.rest ≡ hex_text 32 l.bytes;
  holds : Holds l.fn.self l.self;
  sheet : sheet_of l.self ≡ sheet_of l.fn.self;
}

abbrev pub decreases-loop-rest : goal.decreases-loop-rest
decreases-loop-rest g l = length l.rest
