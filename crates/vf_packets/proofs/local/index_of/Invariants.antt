use Rattle.std.proofs.Common.{◌≡◌, take}
use Rattle.dvi_ops.specs.Numbered.{numbered}
use Rattle.std.specs.Prelude.{map}
use Rattle.vf_packets.specs.Font.{numbers_of}
use Rattle.vf_packets.specs.LocalViews.{local_view}
use Rattle.vf_packets.proofs.local.index_of.Given as goal

abbrev pub invariant-loop-place : goal.invariant-loop-place
invariant-loop-place l = l.numbers ≡ numbered 0 (numbers_of (map local_view (take l.place l.fonts)))
