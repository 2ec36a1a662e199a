-- Commands as bytes, each in its shortest spelling.
use Rattle.std.specs.Prelude.{ℕ, List, [], ◌∷◌, ◌++◌}
use Rattle.dvi_ops.specs.Command.{Command}
use Rattle.dvi_ops.specs.Shortest.{shortest_whole}

-- commands one after another
abbrev pub spelled : List Command → List ℕ
spelled [] = []
spelled (c ∷ cs) = shortest_whole c ++ spelled cs
