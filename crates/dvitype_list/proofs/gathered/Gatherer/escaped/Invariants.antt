use Rattle.std.proofs.Common.{ℕ, List, ◌++◌, take}
use Rattle.dv_base.specs.Tray.{KeepsNames, Seen}
use Rattle.dvitype_list.specs.Gathered.{Gathered}
use Rattle.dvitype_list.specs.Texts.{escaped}
use Rattle.dvitype_list.proofs.gathered.Gatherer.escaped.Given as goal

abbrev pub invariant-loop-byte : goal.invariant-loop-byte
invariant-loop-byte g l =
    let seen = g.T.Tray.seen in
    record {
      keeps : KeepsNames (seen l.fn.tray) (seen l.tray);
      goes : (first : Seen) (text : List ℕ) → Gathered first (seen l.fn.tray) l.fn.self.kept.items text → Gathered first (seen l.tray) l.self.kept.items (text ++ escaped (take l.byte-index l.bytes));
    }
