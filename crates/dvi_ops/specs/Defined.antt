-- Font definitions in their bytes.
use Rattle.std.specs.Prelude.{ℕ, ◌-◌, List, drop, slice_index}
use Rattle.dvi_ops.specs.Command.{Definition}
use Rattle.dvi_ops.specs.Command.Command.{FntDef}
use Rattle.dvi_ops.specs.Spelling.{Spell, definition}

-- the definition that bytes spell, where they spell one
abbrev pub defined : List ℕ → Definition
defined bytes = definition (slice_index bytes 0 - 242) (drop 1 bytes)

-- The bytes spell a definition, and nothing more.
abbrev pub IsDefinition : List ℕ → Type 0
IsDefinition bytes = Spell (FntDef (defined bytes)) bytes
