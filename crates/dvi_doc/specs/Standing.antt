-- Font definitions by their places (DVI format, font definitions and the postamble).
use Rattle.std.specs.Prelude.{◌≡◌, ◌-◌, ℕ, List, map, take, slice_range}
use Rattle.dvi_ops.specs.Command.{Definition}
use Rattle.dvi_ops.specs.Command.Command.{FntDef}
use Rattle.dvi_ops.specs.Placed.{Placed, Lexes}
use Rattle.dvi_ops.specs.Spelling.{definition, extent, byte_at, behind}
use Rattle.dvi_doc.specs.Document.{definitions_of}
use Rattle.dvi_doc.specs.Grammar.{AllFillers}
use Rattle.dvi_doc.specs.Order.{SpelledTo}
use Rattle.dvi_doc.specs.declared.font_def.FontDef.{FontDef}

-- From start to end stand fillers with these definitions.
abbrev pub HoldsEnding : List ℕ → ℕ → ℕ → List Definition → Type 0
HoldsEnding bytes start end defs =
    (cs : List Placed) × AllFillers cs × Lexes start (slice_range bytes start end) cs × (definitions_of cs ≡ defs)

-- the font definition at a place of a file, where one stands there: its operands are as many bytes as the table of commands says
unfoldable pub definition_at : List ℕ → ℕ → Definition
definition_at bytes at = definition (byte_at bytes at - 242) (take (extent (byte_at bytes at) (behind bytes at)) (behind bytes at))

-- A font definition stands at the place.
abbrev pub Stands : List ℕ → FontDef → Type 0
Stands bytes font = (end : ℕ) × SpelledTo bytes font.at end (FntDef (definition_at bytes font.at))

-- what the definitions at these places say
abbrev pub definitions_at : List ℕ → List FontDef → List Definition
definitions_at bytes fonts = map (λ font. definition_at bytes font.at) fonts

-- places of definitions in a file
pub record FontsIn : Type 0 where
  pub bytes : List ℕ
  pub places : List FontDef

-- what these definitions say
abbrev pub fonts_in : FontsIn → List Definition
fonts_in f = definitions_at f.bytes f.places
