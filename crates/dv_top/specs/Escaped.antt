-- Bytes as a message shows them.
use Rattle.std.specs.Prelude.{ℕ, List, [], ◌∷◌, Bool, ◌+◌, ◌/◌, ◌%◌, ◌&&◌, ◌||◌, nat_le, nat_lt, if◌then◌else◌}
use Rattle.std.specs.List.{flat_map}

-- the digit of a number below 16, in lower case
abbrev pub hex_digit : ℕ → ℕ
hex_digit n = if nat_lt n 10 then 48 + n else 87 + n

-- a visible ASCII character or a space; 92 is the backslash
abbrev pub is_plain : ℕ → Bool
is_plain byte = nat_le 32 byte && nat_le byte 126 && (nat_lt byte 92 || nat_lt 92 byte)

-- it stands as it is; any other byte is a backslash and two hexadecimal digits
abbrev pub escaped_byte : ℕ → List ℕ
escaped_byte byte = if is_plain byte then byte ∷ [] else 92 ∷ hex_digit (byte / 16) ∷ hex_digit (byte % 16) ∷ []

abbrev pub escaped : List ℕ → List ℕ
escaped bytes = flat_map escaped_byte bytes
