-- The lengths at the start of a TFM file (TFM format): twelve halfwords, from which the places of its tables follow. A word has
-- four bytes.
use Rattle.std.specs.Prelude.{◌≡◌, ℕ, ◌+◌, ◌-◌, ◌*◌, ◌^◌, ◌<◌, ◌≤◌, List}
use Rattle.dv_base.specs.Numbers.{unsigned}

-- the i-th halfword of the file
unfoldable pub half : List ℕ → ℕ → ℕ
half bytes i = unsigned (2 * i) 2 bytes

-- words of the whole file, and of its header
abbrev pub lf : List ℕ → ℕ
lf bytes = half bytes 0

abbrev pub lh : List ℕ → ℕ
lh bytes = half bytes 1

-- the least and the greatest code of a character
abbrev pub bc : List ℕ → ℕ
bc bytes = half bytes 2

abbrev pub ec : List ℕ → ℕ
ec bytes = half bytes 3

-- words of the table of widths
abbrev pub nw : List ℕ → ℕ
nw bytes = half bytes 4

-- words of the tables behind the widths: heights, depths, italic corrections, ligatures and kerns, kerns, recipes, parameters
unfoldable pub further : List ℕ → ℕ
further bytes = half bytes 5 + half bytes 6 + half bytes 7 + half bytes 8 + half bytes 9 + half bytes 10 + half bytes 11

-- The twelve are lengths of one file. Where bc is ec + 1 there is no character.
pub record AreLengths (bytes : List ℕ) : Type 0 where
  pub halfwords : (i : ℕ) → i < 12 → half bytes i < 2 ^ 15
  pub header : 2 ≤ lh bytes
  pub widths : 1 ≤ nw bytes
  pub order : bc bytes ≤ ec bytes + 1
  pub codes : ec bytes ≤ 255
  pub sum : lf bytes ≡ 6 + lh bytes + (ec bytes + 1 - bc bytes) + nw bytes + further bytes
