-- Big-endian numbers, as the DVI, TFM, PK and VF formats write them: the most significant byte first.
use Rattle.std.specs.Prelude.{ℕ, ℤ, List, drop}
use Rattle.byteorder.specs.Endian.{big_number, twos_complement}

-- the unsigned number in the n bytes from the place `at` on
unfoldable pub unsigned : (at n : ℕ) → List ℕ → ℕ
unsigned at n bytes = big_number n (drop at bytes)

-- the signed number there, in two's complement
unfoldable pub signed : (at n : ℕ) → List ℕ → ℤ
signed at n bytes = twos_complement n (big_number n (drop at bytes))
