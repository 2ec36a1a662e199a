-- What the parts of a text leave. No public clause cites this module.
use Rattle.std.specs.Prelude.{ℕ, List, take, Result, MatchResult}
use Rattle.dv_base.specs.Causes.{Rose}
use Rattle.dv_base.specs.Tray.{Appends, KeepsNames, Seen, WhereTold}

-- the text was appended to the last output, and nothing else has changed
pub record WroteSeen (text : List ℕ) (old new : Seen) : Type 0 where
  pub bytes : WhereTold (Appends text) old.outputs new.outputs
  pub keeps : KeepsNames old new

-- a front of the text was appended to the last output, and the count of faults rose
pub record CutSeen (text : List ℕ) (old new : Seen) : Type 0 where
  pub taken : ℕ
  pub bytes : WhereTold (Appends (take taken text)) old.outputs new.outputs
  pub rose : Rose old.faults new.faults
  pub keeps : KeepsNames old new

-- the whole text at Ok, a front of it at an error
abbrev pub WritesSeen : {X E : Type 0} → List ℕ → Seen → Seen → Result X E → Type 0
WritesSeen text old new result = MatchResult result (λ _. WroteSeen text old new) (λ _. CutSeen text old new)
