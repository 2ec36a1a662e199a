-- What is known of the local fonts of a virtual font.
use Rattle.std.specs.Prelude.{◌≡◌, ℕ, ℤ, List, Option, Some, None, Result, Ok, Err}
use Rattle.std.specs.List.{Contains}
use Rattle.dv_base.specs.FileName.{text_of}
use Rattle.dv_base.specs.Scale.{scaled}
use Rattle.dv_base.specs.declared.units.Units.{Units}
use Rattle.dvi_doc.specs.declared.font.FontKey.{FontKey}
use Rattle.vf_packets.specs.Font.{LocalFont}
use Rattle.font_set.specs.Key.{Key, IsKey}
use Rattle.font_set.specs.LocalKey.{local_key, local_design}
use Rattle.font_set.specs.Fonts.{FontSet, size_at, state_at}
use Rattle.font_set.specs.Programs.{Named, HasNumber, key_in, head_of, local_fonts, locals_at, local_named}
use Rattle.font_set.specs.Views.{key_of}
use Rattle.font_set.specs.declared.fault.FontKeyParts.{FontKeyParts}

-- A size of the local font isn't as it should be where the virtual font has this size, and these are its parts.
pub record IsBadSize (units : Units) (size : ℕ) (local : LocalFont) (parts : FontKeyParts) : Type 0 where
  pub none : local_key units.num units.den size local ≡ None
  pub name : text_of parts.name ≡ local.name
  pub size_is : parts.size ≡ scaled size local.scale
  pub design_is : parts.design ≡ local_design units.num units.den local.design

-- It is so of a local font of this font.
pub record HasBadSize (set : FontSet) (id : ℕ) (local : LocalFont) (parts : FontKeyParts) : Type 0 where
  pub among : Contains (local_fonts (state_at set id)) local
  pub bad : IsBadSize set.units (size_at set id) local parts

-- the key that a number names, or that it names none
abbrev pub KeyAnswer : List Named → ℤ → Option FontKey → Type 0
KeyAnswer fonts k None = HasNumber fonts k → ⊥
KeyAnswer fonts k (Some key) = (key_in fonts k ≡ Some (key_of key)) × IsKey (key_of key)

abbrev pub BadNumber : FontSet → ℕ → ℤ → FontKeyParts → Type 0
BadNumber set id k parts = (local : LocalFont) × (local.k ≡ k) × (key_in (locals_at set id) k ≡ None) × HasBadSize set id local parts

-- the key of the first local font, or that there is none
abbrev pub FirstAnswer : Option Named → Option FontKey → Type 0
FirstAnswer None None = Unit {0}
FirstAnswer None (Some key) = ⊥
FirstAnswer (Some f) None = ⊥
FirstAnswer (Some f) (Some key) = (f.key ≡ Some (key_of key)) × IsKey (key_of key)

abbrev pub BadFirst : FontSet → ℕ → FontKeyParts → Type 0
BadFirst set id parts = (local : LocalFont) × (head_of (locals_at set id) ≡ Some (local_named set.units.num set.units.den (size_at set id) local)) × HasBadSize set id local parts

-- the key that was found, where one was
abbrev pub found_key : Option FontKey → Option Key
found_key None = None
found_key (Some key) = Some (key_of key)

abbrev pub named_key : Result (Option FontKey) FontKeyParts → Option Key
named_key (Ok o) = found_key o
named_key (Err parts) = None
