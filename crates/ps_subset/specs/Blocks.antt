-- Blocks: bytes that the machine passes over unread. A comment announces them by their number, and a line end follows them.
use Rattle.std.specs.Prelude.{ℕ, ◌<◌, ◌^◌, List, [], ◌∷◌, ◌++◌, length, codes, decimal}
use Rattle.ps_subset.specs.State.{Event}
use Rattle.ps_subset.specs.Prolog.{line}
use Rattle.ps_subset.specs.State as state

abbrev pub block_lines : List ℕ → List ℕ
block_lines bytes = line (codes "%TeXblock: " ++ decimal (length bytes)) ++ line bytes

abbrev pub headers_lines : List (List ℕ) → List ℕ
headers_lines [] = []
headers_lines (h ∷ hs) = block_lines h ++ headers_lines hs

abbrev pub headers_events : List (List ℕ) → List Event
headers_events [] = []
headers_events (h ∷ hs) = state.Block h ∷ headers_events hs

abbrev pub AllShort : List (List ℕ) → Type 0
AllShort [] = Unit {0}
AllShort (h ∷ hs) = (length h < 2 ^ 63) × AllShort hs
