-- The fonts of a copy: those real ones of a set that are loaded, numbered from 0 by their ids.
use Rattle.std.specs.Prelude.{ℕ, pos, Bool, true, false, List, [], ◌∷◌, take, ◌+◌, if◌then◌else◌}
use Rattle.dvi_ops.specs.Command.{Command, Definition}
use Rattle.dvi_ops.specs.Command.Command.{FntDef}
use Rattle.font_set.specs.Key.{Key}
use Rattle.font_set.specs.Fonts.{State, Entry, FontSet}

-- whether a font is real and loaded
abbrev pub is_real : State → Bool
is_real State.Known = false
is_real (State.Real tfm pk) = true
is_real (State.Virtual tfm vf) = false

abbrev pub one_where : Bool → ℕ
one_where b = if b then 1 else 0

-- how many of the fonts are real and loaded
abbrev pub reals_in : List Entry → ℕ
reals_in [] = 0
reals_in (e ∷ es) = one_where (is_real e.state) + reals_in es

-- the number of a font: how many real ones have a smaller id
abbrev pub number_of : FontSet → ℕ → ℕ
number_of set id = reals_in (take id set.fonts)

-- the definition of a font by this number; no part of its name is called its area
abbrev pub definition : ℕ → Key → Definition
definition n key = record { k = pos n; checksum = key.checksum; size = pos key.size; design = pos key.design; area = 0; name = key.name }

-- a font's definition before others, where the font is real and loaded
abbrev pub put_definition : ℕ → Key → Bool → List Command → List Command
put_definition n key real cs = if real then FntDef (definition n key) ∷ cs else cs

-- the definitions of fonts, the first real one of which has the number n
abbrev pub definitions_from : ℕ → List Entry → List Command
definitions_from n [] = []
definitions_from n (e ∷ es) = put_definition n e.key (is_real e.state) (definitions_from (n + one_where (is_real e.state)) es)

-- the definitions of all fonts of the copy
abbrev pub definitions : FontSet → List Command
definitions set = definitions_from 0 set.fonts
