-- The names of files that words and specials may give: 1 to 500 visible ASCII characters. This is this project's own.
use Rattle.std.specs.Prelude.{ℕ, List, Bool, length, nat_le, ◌&&◌}
use Rattle.std.specs.List.{list_all}

abbrev pub is_visible : ℕ → Bool
is_visible byte = nat_le 33 byte && nat_le byte 126

-- the bytes come first, so that a wrong first byte decides whatever follows it
abbrev pub is_file_name : List ℕ → Bool
is_file_name text = list_all is_visible text && (nat_le 1 (length text) && nat_le (length text) 500)
