use Rattle.std.proofs.Common.{◌≤◌, ◌-◌}
use Rattle.std.specs.List.{All}
use Rattle.dvi_doc.specs.Order.{Reaches, reading}
use Rattle.dvi_doc.specs.Order.Part.{Between}
use Rattle.dvi_doc.specs.Standing.{Stands, definitions_at}
use Rattle.dvi_doc.specs.Steps.{HasItems, last_of}
use Rattle.dvi_doc.proofs.pages.read_pages.Given as goal

abbrev pub invariant-loop-at : goal.invariant-loop-at
invariant-loop-at l =
    record {
      onward : l.start ≤ l.at;
      inside : l.at ≤ l.ends;
      holds : HasItems l.bytes l.start l.at l.pages.items (definitions_at l.bytes l.earlier.items) (last_of l.last);
      stands : All (Stands l.bytes) l.earlier.items;
      reached : Reaches l.bytes l.at (reading Between (last_of l.last) 0);
    }

abbrev pub decreases-loop-at : goal.decreases-loop-at
decreases-loop-at l = l.ends - l.at
