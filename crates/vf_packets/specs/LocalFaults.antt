-- Why local fonts are refused. No public clause cites this module.
use Rattle.std.specs.Prelude.{ℤ, List}
use Rattle.dvi_ops.specs.Numbered.{HasTwice}
use Rattle.vf_packets.specs.declared.fault.VfFault.{VfFault}
use Rattle.vf_packets.specs.declared.fault.VfFault.TheVariants as fault

-- Two of the fonts have this number, or there is no memory.
abbrev pub IsTwice : List ℤ → VfFault → Type 0
IsTwice numbers (fault.FontTwice k) = HasTwice numbers k
IsTwice numbers fault.OutOfMemory = Unit {0}
IsTwice numbers _ = ⊥
