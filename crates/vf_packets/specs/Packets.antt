-- The packets of a VF file (D. Knuth, "Virtual fonts: more fun for grand wizards", TUGboat 11:1). A short packet is pl[1], 0 to
-- 241, cc[1], tfm[3] and pl bytes of commands; a long one is 242, pl[4], cc[4], tfm[4] and pl bytes of commands.
use Rattle.std.specs.Prelude.{◌≡◌, ℕ, List, [], ◌∷◌, ◌+◌, length, take, drop, slice_index, nat_lt, if◌then◌else◌, Option, None, Some}
use Rattle.dv_base.specs.Numbers.{unsigned}

-- A packet: its code, and the bytes of its commands.
pub record CharacterPacket : Type 0 where
  pub code : ℕ
  pub commands : List ℕ

-- How many bytes stand between the first byte of a packet and its commands.
unfoldable pub head_len : ℕ → ℕ
head_len first = if nat_lt first 242 then 4 else 12

-- How many bytes of commands there are.
unfoldable pub content_len : ℕ → List ℕ → ℕ
content_len first args = if nat_lt first 242 then first else unsigned 0 4 args

unfoldable pub code_in : ℕ → List ℕ → ℕ
code_in first args = if nat_lt first 242 then slice_index args 0 else unsigned 4 4 args

-- How many bytes a packet has behind its first, where `args` begin with them.
abbrev pub extent : ℕ → List ℕ → ℕ
extent first args = head_len first + content_len first args

-- The packet at the front of bytes, and the bytes behind it.
unfoldable pub packet_at : List ℕ → Option (CharacterPacket × List ℕ)
packet_at [] = None
packet_at (first ∷ args) =
    if nat_lt 242 first then None
    else if nat_lt (length args) (extent first args) then None
    else Some (record { code = code_in first args; commands = take (content_len first args) (drop (head_len first) args) }, drop (extent first args) args)

-- The bytes are these packets, one after another, and then come these.
unfoldable pub Packets : List ℕ → List CharacterPacket → List ℕ → Type 0
Packets bytes [] rest = bytes ≡ rest
Packets bytes (p ∷ ps) rest = (more : List ℕ) × (packet_at bytes ≡ Some (p, more)) × Packets more ps rest
