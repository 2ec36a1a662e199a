-- A line that is said.
use Rattle.std.proofs.Common.{◌≡◌, ℕ, List, Option, Some, None, ap}
use Rattle.dv_base.specs.Tray.{Seen}
use Rattle.dv_top.specs.Lines.{SaysLine}

-- it adds no fault
pub line_faults : (text : Option (List ℕ)) (old new : Seen) → SaysLine text old new → new.faults ≡ old.faults
line_faults None old new h = ap (λ (s : Seen). s.faults) h
line_faults (Some text) old new h = h.faults_same
