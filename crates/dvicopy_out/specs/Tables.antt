-- A table of the numbers of fonts.
use Rattle.std.specs.Prelude.{◌≡◌, ◌<◌, ℕ, List, length, slice_index}
use Rattle.font_set.specs.Fonts.{FontSet}
use Rattle.dvicopy_out.specs.Numbered.{number_of}

-- the table tells the number of each font of the set
abbrev pub IsTable : FontSet → List ℕ → Type 0
IsTable set table = (id : ℕ) → id < length set.fonts → slice_index table id ≡ number_of set id
