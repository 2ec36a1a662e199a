-- The parts of a PK file's body (T. Rokicki, "Packed (PK) font file format", TUGboat 6:3). Each begins with a flag byte:
-- 0 to 239 a character, 240 to 243 a special with a length of one to four bytes, 244 a special number of four bytes, 246 a
-- nop. 245 ends the body, and no part begins with a byte from 247 on.
use Rattle.std.specs.Prelude.{◌≡◌, ℕ, List, [], ◌∷◌, ◌+◌, ◌-◌, ◌*◌, ◌%◌, length, take, drop, nat_lt, nat_eq, if◌then◌else◌, Option, None, Some}
use Rattle.dv_base.specs.Numbers.{unsigned}

-- A character's packet: its flag byte, its code, and the bytes behind the code, which its length counts: sizes and raster.
pub record Packet : Type 0 where
  pub flag : ℕ
  pub code : ℕ
  pub content : List ℕ

pub data Part : Type 0 where
  Other : Part
  Character : (packet : Packet) → Part

-- The low three bits of a character's flag byte give the form of its numbers: 0 to 3 short, 4 to 6 extended, 7 long.
abbrev pub by_form : ℕ → ℕ → ℕ → ℕ → ℕ
by_form flag short extended long = if nat_lt (flag % 8) 4 then short else if nat_lt (flag % 8) 7 then extended else long

-- How many bytes stand behind a flag byte before those that a length counts: of a character its length (one, two or four
-- bytes) and its code (one, one or four), of a special its length; and the four bytes of a special number.
unfoldable pub head_len : ℕ → ℕ
head_len flag =
    if nat_lt flag 240 then by_form flag 2 3 8
    else if nat_lt flag 244 then flag - 239
    else if nat_lt flag 245 then 4 else 0

-- How many bytes stand behind these. The low two bits of a character's flag byte go before its length of one or two bytes.
unfoldable pub content_len : ℕ → List ℕ → ℕ
content_len flag args =
    if nat_lt flag 240 then by_form flag (unsigned 0 1 args + 256 * (flag % 4)) (unsigned 0 2 args + 65536 * (flag % 4)) (unsigned 0 4 args)
    else if nat_lt flag 244 then unsigned 0 (flag - 239) args else 0

-- How many bytes a part has behind its flag byte, where `args` begin with them.
abbrev pub extent : ℕ → List ℕ → ℕ
extent flag args = head_len flag + content_len flag args

-- The code of a character.
unfoldable pub code_in : ℕ → List ℕ → ℕ
code_in flag args = by_form flag (unsigned 1 1 args) (unsigned 2 1 args) (unsigned 4 4 args)

-- The part of a flag byte and all bytes behind it.
unfoldable pub part_of : ℕ → List ℕ → Part
part_of flag args = if nat_lt flag 240 then Character (record { flag = flag; code = code_in flag args; content = drop (head_len flag) args }) else Other

-- The part at the front of bytes, and the bytes behind it.
unfoldable pub part_at : List ℕ → Option (Part × List ℕ)
part_at [] = None
part_at (flag ∷ args) =
    if nat_eq flag 245 then None
    else if nat_lt 246 flag then None
    else if nat_lt (length args) (extent flag args) then None
    else Some (part_of flag (take (extent flag args) args), drop (extent flag args) args)

-- The bytes are these parts, one after another, and then come these.
unfoldable pub Parts : List ℕ → List Part → List ℕ → Type 0
Parts bytes [] rest = bytes ≡ rest
Parts bytes (p ∷ ps) rest = (more : List ℕ) × (part_at bytes ≡ Some (p, more)) × Parts more ps rest
