-- Commands that follow one another, each with its place.
use Rattle.std.specs.Prelude.{◌≡◌, ℕ, ◌+◌, List, [], ◌∷◌, ◌++◌, length}
use Rattle.dvi_ops.specs.Command.{Command}
use Rattle.dvi_ops.specs.Spelling.{Spell}

-- a command, and the place of its first byte in the file
pub record Placed : Type 0 where
  pub place : ℕ
  pub command : Command

-- The bytes are spellings of these commands, one after another, and nothing else; the first byte has the place at. So each command
-- stands where the lengths before it put it.
abbrev pub Lexes : ℕ → List ℕ → List Placed → Type 0
Lexes at bytes [] = bytes ≡ []
Lexes at bytes (c ∷ cs) =
    (c.place ≡ at) × (front : List ℕ) × (rest : List ℕ) × (bytes ≡ front ++ rest) × Spell c.command front × Lexes (at + length front) rest cs
