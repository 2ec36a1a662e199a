-- What follows from the table of commands for all spellings.
use Rattle.std.specs.Prelude.{◌≡◌, ◌↔◌, ℕ, List, ◌++◌, ◌<◌, slice_index, Some}
use Rattle.dvi_ops.specs.Command.{Command}
use Rattle.dvi_ops.specs.Spelling.{Spell}
use Rattle.dvi_ops.specs.Shortest.{shortest_whole, IsShortest, HasRoom, CanBePut}
use Rattle.dvi_ops.specs.Placed.{Placed, Lexes}
use Rattle.dvi_ops.specs.Reading.{commands_in}

-- Of two spellings at the front of the same bytes, neither is longer and both are of the same command: no spelling begins another,
-- and none is of two commands.
abbrev pub OneSpelling : Type 0
OneSpelling =
    (a b : List ℕ) (c d : Command) (x y : List ℕ) → Spell c a → Spell d b → a ++ x ≡ b ++ y → (a ≡ b) × (c ≡ d)

-- Bytes are spellings of these commands, one after another, exactly where these are the commands in the bytes.
abbrev pub OneReading : Type 0
OneReading = (at : ℕ) (bytes : List ℕ) (cs : List Placed) → Lexes at bytes cs ↔ (commands_in at bytes ≡ Some cs)

-- A command whose operands have room has a shortest spelling, which is this one.
abbrev pub ShortestSpelling : Type 0
ShortestSpelling = (cmd : Command) → HasRoom cmd → IsShortest cmd (shortest_whole cmd)

-- What bytes spell has room for its operands, and so it can be put.
abbrev pub SpelledHasRoom : Type 0
SpelledHasRoom = (cmd : Command) (bytes : List ℕ) → ((i : ℕ) → slice_index bytes i < 256) → Spell cmd bytes → HasRoom cmd × CanBePut cmd
