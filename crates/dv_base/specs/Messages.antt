-- Messages that are kept one after another in one store, and their lengths beside it.
use Rattle.std.proofs.Common.{ℕ, ◌+◌, List, [], ◌∷◌, ◌++◌, take, drop}

-- the texts of these lengths, one after another, each with one byte behind it
abbrev pub texts_of : List ℕ → List ℕ → List (List ℕ)
texts_of [] bytes = []
texts_of (n ∷ ns) bytes = take n bytes ∷ texts_of ns (drop (n + 1) bytes)

-- the texts one after another, each with a line end
abbrev pub lines_of : List (List ℕ) → List ℕ
lines_of [] = []
lines_of (text ∷ texts) = text ++ 10 ∷ [] ++ lines_of texts

-- as many bytes as these texts have with their line ends
abbrev pub room_of : List ℕ → ℕ
room_of [] = 0
room_of (n ∷ ns) = n + 1 + room_of ns
