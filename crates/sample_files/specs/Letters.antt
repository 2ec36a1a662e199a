-- The characters of the document. A generator of numbers (linear congruential) draws them, each by one step of its state.
use Rattle.std.specs.Prelude.{ℕ, zero, suc, ◌+◌, ◌*◌, ◌/◌, ◌%◌, ◌^◌, List, [], ◌∷◌, ◌++◌}

-- the state behind a state
abbrev pub next : ℕ → ℕ
next s = (s * 1103515245 + 12345) % 2 ^ 31

-- the state n steps behind s
unfoldable pub after : ℕ → ℕ → ℕ
after zero s = s
after (suc n) s = next (after n s)

-- the code that a state draws: one of sixteen, the first of which is A
abbrev pub code_of : ℕ → ℕ
code_of s = 65 + s / 65536 % 16

-- the codes that the n states behind s draw
unfoldable pub codes : ℕ → ℕ → List ℕ
codes zero s = []
codes (suc n) s = codes n s ++ code_of (after (suc n) s) ∷ []
