-- What follows from the format for all bytes.
use Rattle.std.specs.Prelude.{◌≡◌, ℕ, List}
use Rattle.vf_packets.specs.Font.{VirtualFont}
use Rattle.vf_packets.specs.File.{IsVf}

-- Bytes tell at most one font.
abbrev pub OneFont : Type 0
OneFont = (bytes : List ℕ) (c d : VirtualFont) → IsVf bytes c → IsVf bytes d → c ≡ d
