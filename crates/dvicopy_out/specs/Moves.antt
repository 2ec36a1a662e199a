-- Moves of any length, in as few commands as can say them.
use Rattle.std.specs.Prelude.{◌^◌, ◌-◌, ℤ, pos, ◌-ℤ◌, List, [], ◌∷◌, ◌++◌, if◌then◌else◌, neg_ℤ}
use Rattle.std.specs.Int.{int_max, int_min}
use Rattle.std.specs.Ordering.{int_eq}
use Rattle.dvi_ops.specs.Command.{Command}

-- the furthest that one command moves here, 2^31 - 1 units
abbrev pub furthest : ℤ
furthest = pos (2 ^ 31 - 1)

-- as much of a move as one command can do
abbrev pub first_part : ℤ → ℤ
first_part q = int_max (neg_ℤ furthest) (int_min q furthest)

-- a move of 0 is left out
abbrev pub part : (ℤ → Command) → ℤ → List Command
part move q = if int_eq q (pos 0) then [] else move q ∷ []

-- a move, in two where one command can't do it
abbrev pub moves : (ℤ → Command) → ℤ → List Command
moves move q = part move (first_part q) ++ part move (q -ℤ first_part q)
