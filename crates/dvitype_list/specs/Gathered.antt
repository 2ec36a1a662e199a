-- Text that is gathered before it goes out.
use Rattle.std.specs.Prelude.{◌≡◌, ℕ, List, ◌++◌}
use Rattle.dv_base.specs.Causes.{Rose}
use Rattle.dv_base.specs.Tray.{Seen, WhereTold, Appends, AppendsFront, KeepsNames}

-- The text went out to the tray, but for its last bytes, which are kept.
pub record Gathered (first now : Seen) (kept text : List ℕ) : Type 0 where
  pub sent : List ℕ
  pub whole : sent ++ kept ≡ text
  pub told : WhereTold (Appends sent) first.outputs now.outputs
  pub names : KeepsNames first now

-- A front of the text went out, and then the tray failed.
pub record Cut (first now : Seen) (text : List ℕ) : Type 0 where
  pub told : WhereTold (AppendsFront text) first.outputs now.outputs
  pub rose : Rose first.faults now.faults
  pub names : KeepsNames first now
