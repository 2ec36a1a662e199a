-- One command of several that follow one another.
use Rattle.std.specs.Prelude.{◌≡◌, ℕ, List, ◌∷◌}
use Rattle.dvi_ops.specs.Command.{Command}
use Rattle.dvi_ops.specs.Placed.{Placed, Lexes}

-- The first of the commands is this one, with the place at; the others begin with the place next, and the bytes spell them.
abbrev pub IsFirst : ℕ → Command → ℕ → List ℕ → List Placed → Type 0
IsFirst at command next bytes commands =
    (others : List Placed) × (commands ≡ record { place = at; command = command } ∷ others) × Lexes next bytes others
