-- What a run says.
use Rattle.std.specs.Prelude.{◌≡◌, ℕ, List, Option, Some, None}
use Rattle.dv_base.specs.Tray.{Says, Seen}

-- The line is said, and nothing else changes; where there is none, nothing changes.
abbrev pub SaysLine : Option (List ℕ) → Seen → Seen → Type 0
SaysLine None old new = new ≡ old
SaysLine (Some text) old new = Says text old new
