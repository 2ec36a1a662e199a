-- The numbers of fonts, in the order of the fonts' definitions.
use Rattle.std.specs.Prelude.{◌≡◌, ◌⊎◌, ℕ, ℤ, suc, List, [], ◌∷◌, map}

-- one of the numbers is k
abbrev pub Has : List ℤ → ℤ → Type 0
Has [] k = ⊥
Has (n ∷ ns) k = (n ≡ k) ⊎ Has ns k

-- two of the numbers are k
abbrev pub HasTwice : List ℤ → ℤ → Type 0
HasTwice [] k = ⊥
HasTwice (n ∷ ns) k = ((n ≡ k) × Has ns k) ⊎ HasTwice ns k

-- each number with its place, where the first has the place at
abbrev pub numbered : ℕ → List ℤ → List (ℤ × ℕ)
numbered at [] = []
numbered at (n ∷ ns) = (n, at) ∷ numbered (suc at) ns

-- the numbers of pairs, in their order
abbrev pub numbers_in : List (ℤ × ℕ) → List ℤ
numbers_in pairs = map (λ a. a.0) pairs
