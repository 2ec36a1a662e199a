-- The marks of characters, 256 for each of 1,000 fonts, where those of the first fonts alone are kept.
use Rattle.std.specs.Prelude.{◌-◌, ◌++◌, List, Bool, false, length, replicate}

-- the marks with the missing ones, which are false
unfoldable pub padded : List Bool → List Bool
padded vs = vs ++ replicate (256000 - length vs) false
