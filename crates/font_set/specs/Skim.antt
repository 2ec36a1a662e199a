-- The commands that a search for fonts passes over.
use Rattle.std.specs.Prelude.{◌≡◌, ◌<◌, ◌≤◌, ℕ, zero, suc, ℤ, List, Bool, length, slice_range, Option, Some}
use Rattle.dvi_ops.specs.Command.{Command}
use Rattle.dvi_ops.specs.Command.Command.{Set, Put, Fnt}
use Rattle.dvi_ops.specs.Spelling.{Spell}
use Rattle.font_set.specs.Found.{WasMet}

-- a font is selected, and its character of this code was met
abbrev pub IsMet : List Bool → Option ℕ → ℤ → Type 0
IsMet met font z = (id : ℕ) × (font ≡ Some id) × WasMet met id z

-- The command asks nothing of fonts that isn't known: it selects none, and sets no character but one that was met.
abbrev pub IsQuiet : List Bool → Option ℕ → Command → Type 0
IsQuiet met font (Set z) = IsMet met font z
IsQuiet met font (Put z) = IsMet met font z
IsQuiet met font (Fnt k) = ⊥
IsQuiet met font _ = Unit {0}

-- One such command stands from a place to another.
abbrev pub PassesOne : List Bool → Option ℕ → List ℕ → ℕ → ℕ → Type 0
PassesOne met font bytes at next =
    (at < next) × (next ≤ length bytes) × (cmd : Command) × IsQuiet met font cmd × Spell cmd (slice_range bytes at next)

-- So many such commands stand from a place to another, and nothing else.
abbrev pub Passes : List Bool → Option ℕ → ℕ → List ℕ → ℕ → ℕ → Type 0
Passes met font zero bytes at next = next ≡ at
Passes met font (suc n) bytes at next = (mid : ℕ) × Passes met font n bytes at mid × PassesOne met font bytes mid next
