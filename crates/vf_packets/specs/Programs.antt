-- The commands of a packet (D. Knuth, "Virtual fonts: more fun for grand wizards", TUGboat 11:1): DVI commands, one after another.
use Rattle.std.specs.Prelude.{ℕ, List, [], ◌∷◌}
use Rattle.dvi_ops.specs.Command.{Command}
use Rattle.dvi_ops.specs.Command.Command.{Bop, Eop, FntDef, Pre, Post, PostPost}
pub use Rattle.dvi_ops.specs.Placed.{Placed, Lexes}

-- A packet holds neither the ends of pages, nor definitions, nor what stands round the pages.
abbrev pub IsAllowed : Command → Type 0
IsAllowed (Bop counts back) = ⊥
IsAllowed Eop = ⊥
IsAllowed (FntDef d) = ⊥
IsAllowed (Pre head) = ⊥
IsAllowed (Post tail) = ⊥
IsAllowed (PostPost back id) = ⊥
IsAllowed _ = Unit {0}

abbrev pub AllAllowed : List Placed → Type 0
AllAllowed [] = Unit {0}
AllAllowed (c ∷ cs) = IsAllowed c.command × AllAllowed cs

-- From the place on the bytes are commands that a packet may hold.
pub record ProgramFrom (at : ℕ) (bytes : List ℕ) : Type 0 where
  pub commands : List Placed
  pub spelled : Lexes at bytes commands
  pub allowed : AllAllowed commands

-- The bytes of a packet are whole commands that a packet may hold.
abbrev pub IsProgram : List ℕ → Type 0
IsProgram bytes = ProgramFrom 0 bytes
