use Rattle.std.proofs.Common.{◌≡◌, ℕ, List, ◌++◌, length, map, drop}
use Rattle.dv_top.specs.Spoken.{SaysAll}
use Rattle.dv_top.specs.Texts.{texts_in, total}
use Rattle.dv_top.specs.Warnings.{special_line}
use Rattle.dv_top.proofs.heads.say_each.Given as goal

abbrev pub invariant-loop-length : goal.invariant-loop-length
invariant-loop-length g l =
    record {
      room : total (drop l.length-index l.lengths) ≡ length l.rest;
      said : (xs : List (List ℕ)) × SaysAll (map special_line xs) (g.T.Tray.seen l.fn.tray) (g.T.Tray.seen l.tray) × (xs ++ texts_in (drop l.length-index l.lengths) l.rest ≡ texts_in l.lengths l.bytes);
    }
