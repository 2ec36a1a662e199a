-- Kinds of commands.
use Rattle.std.specs.Prelude.{ℕ, length}
use Rattle.dvi_ops.specs.Command.{Command}
use Rattle.dvi_ops.specs.Command.Command.{Set, Put, Fnt, Push, Pop, Bop, Eop, Pre, Post, PostPost, Xxx, Right, W0, W, X0, X, Down, Y0, Y, Z0, Z}

-- a command that is neither push nor pop, selects no font and sets no character
abbrev pub IsPlain : Command → Type 0
IsPlain (Set code) = ⊥
IsPlain (Put code) = ⊥
IsPlain (Fnt k) = ⊥
IsPlain Push = ⊥
IsPlain Pop = ⊥
IsPlain (Bop counts back) = ⊥
IsPlain Eop = ⊥
IsPlain (Pre head) = ⊥
IsPlain (Post tail) = ⊥
IsPlain (PostPost back id) = ⊥
IsPlain _ = Unit {0}

-- how many bytes a special has, and 0 for each other command
abbrev pub special_size : Command → ℕ
special_size (Xxx text) = length text
special_size _ = 0

-- a move, right or down
abbrev pub IsMove : Command → Type 0
IsMove (Right q) = Unit {0}
IsMove W0 = Unit {0}
IsMove (W q) = Unit {0}
IsMove X0 = Unit {0}
IsMove (X q) = Unit {0}
IsMove (Down q) = Unit {0}
IsMove Y0 = Unit {0}
IsMove (Y q) = Unit {0}
IsMove Z0 = Unit {0}
IsMove (Z q) = Unit {0}
IsMove _ = ⊥
