use Rattle.std.proofs.Common.{map}
use Rattle.sections.specs.Below.{those_below}
use Rattle.dv_top.specs.Spoken.{SaysAll}
use Rattle.dv_top.specs.Warnings.{checksum_line, is_mismatched}
use Rattle.dv_top.proofs.warnings.say_checksums.Given as goal

abbrev pub invariant-loop-number : goal.invariant-loop-number
invariant-loop-number g l = SaysAll (map (checksum_line l.fonts) (those_below (is_mismatched l.fonts) l.number)) (g.T.Tray.seen l.fn.tray) (g.T.Tray.seen l.tray)
