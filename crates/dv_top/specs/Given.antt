-- Faults of loading and of listings that name only fonts that a set knows. No public clause cites this module.
use Rattle.std.specs.Prelude.{◌<◌, ℕ, length}
use Rattle.font_set.specs.Fonts.{FontSet}
use Rattle.font_set.specs.declared.fault.LoadFault.{LoadFault}
use Rattle.font_set.specs.declared.fault.LoadFault.TheVariants as load
use Rattle.vf_expand.specs.Given.{IsSpotGiven}
use Rattle.dvitype_list.specs.declared.fault.ListFault.{ListFault}
use Rattle.dvitype_list.specs.declared.fault.ListFault.TheVariants as fault

abbrev pub IsGiven : FontSet → ℕ → Type 0
IsGiven set id = id < length set.fonts

abbrev pub LoadNamesGiven : FontSet → LoadFault → Type 0
LoadNamesGiven set (load.UndefinedFont s) = IsSpotGiven set s
LoadNamesGiven set (load.NoFont s) = IsSpotGiven set s
LoadNamesGiven set (load.NoChar id z) = IsGiven set id
LoadNamesGiven set (load.NoPacket id code) = IsGiven set id
LoadNamesGiven set (load.NoGlyph id code) = IsGiven set id
LoadNamesGiven set (load.GlyphTooBig id code bytes) = IsGiven set id
LoadNamesGiven set (load.Font f) = Unit {0}

abbrev pub ListNamesGiven : FontSet → ListFault → Type 0
ListNamesGiven set (fault.Load f) = LoadNamesGiven set f
ListNamesGiven set (fault.StackUnder x) = IsSpotGiven set x
ListNamesGiven set (fault.StackLeft x) = IsSpotGiven set x
ListNamesGiven set (fault.StackDeep x) = IsSpotGiven set x
ListNamesGiven set (fault.Overflow x) = IsSpotGiven set x
ListNamesGiven set fault.WriteFault = Unit {0}
ListNamesGiven set fault.OutOfMemory = Unit {0}
