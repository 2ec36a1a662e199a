-- Decimal digits at the front of a text.
use Rattle.std.specs.Prelude.{ℕ, List, drop}
use Rattle.std.specs.List.{prefix_len, take_while}
use Rattle.std.specs.Char.{is_ascii_digit}

-- the digits that a text begins with
abbrev pub digits_of : List ℕ → List ℕ
digits_of text = take_while is_ascii_digit text

-- what follows them
abbrev pub behind_digits : List ℕ → List ℕ
behind_digits text = drop (prefix_len is_ascii_digit text) text
