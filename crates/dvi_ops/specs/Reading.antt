-- The commands that bytes spell, as a function of the bytes.
use Rattle.std.specs.Prelude.{ℕ, zero, suc, ◌+◌, ◌&&◌, nat_lt, nat_le, if◌then◌else◌, List, [], ◌∷◌, length, take, drop, Option, Some, None}
use Rattle.dvi_ops.specs.Command.{Command}
use Rattle.dvi_ops.specs.Spelling.{extent, meaning}
use Rattle.dvi_ops.specs.Placed.{Placed}

-- a command before others, where there are others
abbrev pub before : ℕ → Command → Option (List Placed) → Option (List Placed)
before at c None = None
before at c (Some cs) = Some (record { place = at; command = c } ∷ cs)

-- At most n commands, from the front of the bytes to their end; the first byte has the place at.
unfoldable pub commands_from : ℕ → ℕ → List ℕ → Option (List Placed)
commands_from zero at [] = Some []
commands_from zero at (op ∷ args) = None
commands_from (suc n) at [] = Some []
commands_from (suc n) at (op ∷ args) =
    if nat_lt op 250 && nat_le (extent op args) (length args)
    then before at (meaning op (take (extent op args) args)) (commands_from n (at + 1 + extent op args) (drop (extent op args) args))
    else None

-- The commands that the bytes spell, each with its place; the first byte has the place at. Undefined where the bytes are no whole
-- commands.
unfoldable pub commands_in : ℕ → List ℕ → Option (List Placed)
commands_in at bytes = commands_from (length bytes) at bytes
