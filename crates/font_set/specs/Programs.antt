-- Commands with what their font numbers name.
use Rattle.std.specs.Prelude.{◌≡◌, ◌⊎◌, ℕ, ℤ, List, [], ◌∷◌, map, Option, Some, None, if◌then◌else◌}
use Rattle.std.specs.Ordering.{int_eq}
use Rattle.dv_base.specs.declared.units.Units.{Units}
use Rattle.dvi_ops.specs.Command.{Definition}
use Rattle.dvi_ops.specs.Placed.{Placed}
use Rattle.dvi_ops.specs.Reading.{commands_in}
use Rattle.vf_packets.specs.Font.{LocalFont, VirtualFont, packet_of}
use Rattle.std.specs.Prelude.{unsigned_abs}
use Rattle.font_set.specs.Key.{Key}
use Rattle.font_set.specs.LocalKey.{local_key}
use Rattle.font_set.specs.Fonts.{State, FontSet, place_of, size_at, state_at}

-- A font number and the key of its font, which is none where the font's sizes are not as they should be.
pub record Named : Type 0 where
  pub number : ℤ
  pub key : Option Key

-- The fonts of a frame. size is that of the virtual font whose packet the frame is; a page has none, and its amounts are in DVI units.
pub record Scope : Type 0 where
  pub size : Option ℕ
  pub fonts : List Named

-- A frame: its fonts, the font in which it begins, and its commands.
pub record Program : Type 0 where
  pub scope : Scope
  pub first : Option Named
  pub commands : List Placed

-- the key that a number names
unfoldable pub key_in : List Named → ℤ → Option Key
key_in [] k = None
key_in (f ∷ fs) k = if int_eq f.number k then f.key else key_in fs k

-- one of the fonts has the number
abbrev pub HasNumber : List Named → ℤ → Type 0
HasNumber [] k = ⊥
HasNumber (f ∷ fs) k = (f.number ≡ k) ⊎ HasNumber fs k

abbrev pub head_of : List Named → Option Named
head_of [] = None
head_of (f ∷ fs) = Some f

-- ---- pages

-- the key of the font that a definition names
abbrev pub key_by : Definition → Key
key_by d = record { name = d.name; checksum = d.checksum; size = unsigned_abs d.size; design = unsigned_abs d.design }

abbrev pub named_by : Definition → Named
named_by d = record { number = d.k; key = Some (key_by d) }

-- the fonts of a document
unfoldable pub page_fonts : List Definition → List Named
page_fonts ds = map named_by ds

abbrev pub page_scope : List Definition → Scope
page_scope ds = record { size = None; fonts = page_fonts ds }

abbrev pub page_program : List Definition → List Placed → Program
page_program ds cs = record { scope = page_scope ds; first = None; commands = cs }

-- ---- packets

abbrev pub local_named : ℤ → ℤ → ℕ → LocalFont → Named
local_named num den size l = record { number = l.k; key = local_key num den size l }

unfoldable pub locals_of : ℤ → ℤ → ℕ → VirtualFont → List Named
locals_of num den size vf = map (local_named num den size) vf.locals

-- the local fonts of a virtual font; a real font has none
abbrev pub local_fonts : State → List LocalFont
local_fonts State.Known = []
local_fonts (State.Real tfm pk) = []
local_fonts (State.Virtual tfm vf) = vf.locals

abbrev pub locals_in : ℤ → ℤ → ℕ → State → List Named
locals_in num den size State.Known = []
locals_in num den size (State.Real tfm pk) = []
locals_in num den size (State.Virtual tfm vf) = locals_of num den size vf

-- the fonts of the packets of a font
unfoldable pub locals_at : FontSet → ℕ → List Named
locals_at set id = locals_in set.units.num set.units.den (size_at set id) (state_at set id)

abbrev pub packet_program : ℤ → ℤ → ℕ → VirtualFont → Option (List Placed) → Option Program
packet_program num den size vf None = None
packet_program num den size vf (Some cs) =
    Some (record { scope = record { size = Some size; fonts = locals_of num den size vf }; first = head_of (locals_of num den size vf); commands = cs })

abbrev pub lexed : Option (List ℕ) → Option (List Placed)
lexed None = None
lexed (Some bytes) = commands_in 0 bytes

abbrev pub program_in : Units → ℕ → State → ℕ → Option Program
program_in units size State.Known code = None
program_in units size (State.Real tfm pk) code = None
program_in units size (State.Virtual tfm vf) code = packet_program units.num units.den size vf (lexed (packet_of vf code))

-- the packet of a character
unfoldable pub program_at : FontSet → ℕ → ℕ → Option Program
program_at set id code = program_in set.units (size_at set id) (state_at set id) code

-- ---- fonts of a frame by their ids

abbrev pub id_of : FontSet → Option Key → Option ℕ
id_of set None = None
id_of set (Some key) = place_of set.fonts key

-- the font that a number names
unfoldable pub select : FontSet → Scope → ℤ → Option ℕ
select set scope k = id_of set (key_in scope.fonts k)

abbrev pub key_of_first : Option Named → Option Key
key_of_first None = None
key_of_first (Some f) = f.key

-- the font in which a frame begins
unfoldable pub first_font : FontSet → Program → Option ℕ
first_font set p = id_of set (key_of_first p.first)
