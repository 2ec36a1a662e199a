-- Commands that stand inside pages and have no text, so that the operation byte tells their length.
use Rattle.dvi_ops.specs.Command.{Command}
use Rattle.dvi_ops.specs.Command.Command.{Bop, Eop, Xxx, FntDef, Pre, Post, PostPost}

abbrev pub IsPlain : Command → Type 0
IsPlain (Bop counts back) = ⊥
IsPlain Eop = ⊥
IsPlain (Xxx text) = ⊥
IsPlain (FntDef d) = ⊥
IsPlain (Pre head) = ⊥
IsPlain (Post tail) = ⊥
IsPlain (PostPost back id) = ⊥
IsPlain _ = Unit {0}
