-- What a command asks of the fonts of its frame.
use Rattle.std.specs.Prelude.{◌≡◌, ℕ, ℤ, List, Some}
use Rattle.dvi_ops.specs.Command.{Command}
use Rattle.dvi_ops.specs.Command.Command.{Set, Put, Fnt}
use Rattle.dvi_doc.specs.declared.font.FontKey.{FontKey}
use Rattle.font_set.specs.Key.{IsKey}
use Rattle.font_set.specs.Programs.{Named, HasNumber, key_in}
use Rattle.font_set.specs.Views.{key_of}
use Rattle.font_set.specs.Fonts.{FontSet}
use Rattle.font_set.specs.Search.{spot_at, BadAt}
use Rattle.font_set.specs.declared.agenda.Home.{Home}
use Rattle.font_set.specs.declared.turn.Asked.{Asked}
use Rattle.font_set.specs.declared.turn.Asked.TheVariants as asked
use Rattle.font_set.specs.declared.turn.Does.{Does}
use Rattle.font_set.specs.declared.turn.Does.TheVariants as does
use Rattle.font_set.specs.declared.fault.LoadFault.{LoadFault}
use Rattle.font_set.specs.declared.fault.LoadFault.TheVariants as load

abbrev pub IsAsked : Command → Asked → Type 0
IsAsked (Fnt k) a = a ≡ asked.Font k
IsAsked (Set z) a = a ≡ asked.Char z
IsAsked (Put z) a = a ≡ asked.Char z
IsAsked _ a = a ≡ asked.Nothing

-- what is done where this is asked
abbrev pub DoesAsked : List Named → Asked → Does → Type 0
DoesAsked fonts asked.Nothing d = d ≡ does.Nothing
DoesAsked fonts (asked.Char z) d = d ≡ does.Sets z
DoesAsked fonts (asked.Font k) d = (key : FontKey) × (d ≡ does.Selects key) × (key_in fonts k ≡ Some (key_of key)) × IsKey (key_of key)

-- why the number names no key in a frame
abbrev pub KeyFault : FontSet → Home → ℤ → LoadFault → Type 0
KeyFault set h k (load.Font f) = BadAt set h k f
KeyFault set h k _ = ⊥

-- why its font can't be selected at this place
abbrev pub NoKey : FontSet → Home → List Named → ℕ → ℤ → LoadFault → Type 0
NoKey set h fonts at k (load.UndefinedFont s) = (s ≡ spot_at h at) × (HasNumber fonts k → ⊥)
NoKey set h fonts at k e = KeyFault set h k e

abbrev pub AskedFault : FontSet → Home → List Named → ℕ → Asked → LoadFault → Type 0
AskedFault set h fonts at asked.Nothing e = ⊥
AskedFault set h fonts at (asked.Char z) e = ⊥
AskedFault set h fonts at (asked.Font k) e = NoKey set h fonts at k e
