-- What is put together before it goes out. (No public clause cites this module: its words are those of the writer.)
use Rattle.std.specs.Prelude.{◌≡◌, ℕ, List, ◌++◌}
use Rattle.dv_base.specs.declared.tray.Tray.{Ghosts}
use Rattle.ps_emit.specs.Written.{Wrote}
use Rattle.ps_emit.specs.Shown.{out_of}
use Rattle.ps_emit.specs.declared.emitter.Emitter.{Emitter}

-- Of this text a front was written from the earlier emitter to the later one, and the later one's line holds the rest.
pub record Ahead {T : Type 0} {G : Ghosts T} (text : List ℕ) (old new : Emitter T G) : Type 0 where
  pub front : List ℕ
  pub wrote : Wrote front (out_of old) (out_of new)
  pub joined : front ++ new.line ≡ text
