-- The list of widths, code by code.
use Rattle.std.proofs.Common.{◌≡◌, ℕ, ◌+◌, List, [], ◌∷◌, ◌++◌, length, refl, arith}
use Rattle.std.proofs.lemmas.List.FromFn.{map-range_with_len_more, length-map-range_with_len}
use Rattle.tfm_widths.specs.Widths.{width_of, widths_below}

pub none_below : (bytes : List ℕ) → widths_below bytes 0 ≡ []
unfolding widths_below
none_below bytes = refl

pub one_more : (bytes : List ℕ) (n : ℕ) → widths_below bytes (n + 1) ≡ widths_below bytes n ++ width_of bytes n ∷ []
unfolding widths_below
one_more bytes n = map-range_with_len_more (width_of bytes) 0 n n (omega arith)

pub length-widths_below : (bytes : List ℕ) (n : ℕ) → length (widths_below bytes n) ≡ n
unfolding widths_below
length-widths_below bytes n = length-map-range_with_len (width_of bytes) 0 n
