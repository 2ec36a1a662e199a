-- What stands between the parts of a list.
use Rattle.std.specs.Prelude.{ℕ, Bool, nat_eq}

abbrev pub is_comma : ℕ → Bool
is_comma byte = nat_eq byte 44
