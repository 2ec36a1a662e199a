-- The fonts that a fault names.
use Rattle.std.specs.Prelude.{◌<◌, length}
use Rattle.dv_base.specs.declared.font_id.Spot.{Spot}
use Rattle.dv_base.specs.declared.font_id.Spot.TheVariants as spot
use Rattle.font_set.specs.Fonts.{FontSet}
use Rattle.vf_expand.specs.declared.fault.WalkFault.{WalkFault}
use Rattle.vf_expand.specs.declared.fault.WalkFault.TheVariants as fault

-- a spot of a packet is of a font of the set
abbrev pub IsSpotGiven : FontSet → Spot → Type 0
IsSpotGiven set (spot.Page at) = Unit {0}
IsSpotGiven set (spot.Packet id code at) = id < length set.fonts

-- so is each font that a fault names
abbrev pub NamesGiven : {F : Type 0} → FontSet → WalkFault F → Type 0
NamesGiven set (fault.StackUnder x) = IsSpotGiven set x
NamesGiven set (fault.StackLeft x) = IsSpotGiven set x
NamesGiven set (fault.StackDeep x) = IsSpotGiven set x
NamesGiven set (fault.NestDeep id code) = id < length set.fonts
NamesGiven set fault.TooManySteps = Unit {0}
NamesGiven set (fault.Overflow x) = IsSpotGiven set x
NamesGiven set (fault.Canvas f) = Unit {0}
