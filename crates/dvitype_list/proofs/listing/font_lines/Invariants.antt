use Rattle.std.proofs.Common.{ℕ, List, ◌++◌, take}
use Rattle.dv_base.specs.Tray.{KeepsNames, Seen}
use Rattle.dvitype_list.specs.Gathered.{Gathered}
use Rattle.dvitype_list.specs.Texts.{font_lines}
use Rattle.dvitype_list.proofs.listing.font_lines.Given as goal

abbrev pub invariant-loop-font : goal.invariant-loop-font
invariant-loop-font g l =
    let seen = g.T.Tray.seen in
    record {
      keeps : KeepsNames (seen l.fn.tray) (seen l.tray);
      goes : (first : Seen) (text : List ℕ) → Gathered first (seen l.fn.tray) l.fn.out.kept.items text → Gathered first (seen l.tray) l.out.kept.items (text ++ font_lines (take l.font-index l.fn.doc.fonts));
    }
