-- Short texts that are kept one behind the other, with their lengths beside them. (No public clause cites this module.)
use Rattle.std.specs.Prelude.{ℕ, ◌+◌, List, [], ◌∷◌, take, drop}

-- the texts of these lengths that stand one behind the other in the bytes
unfoldable pub texts_in : List ℕ → List ℕ → List (List ℕ)
texts_in [] bytes = []
texts_in (n ∷ ns) bytes = take n bytes ∷ texts_in ns (drop n bytes)

-- the sum of the lengths
unfoldable pub total : List ℕ → ℕ
total [] = 0
total (n ∷ ns) = n + total ns
