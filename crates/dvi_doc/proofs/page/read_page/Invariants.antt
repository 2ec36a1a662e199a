use Rattle.std.proofs.Common.{◌≡◌, ◌≤◌, ◌-◌, ◌++◌, ℤ, List, slice_range}
use Rattle.std.specs.List.{All}
use Rattle.dvi_ops.specs.Placed.{Placed, Lexes}
use Rattle.dvi_doc.specs.Document.{definitions_of}
use Rattle.dvi_doc.specs.Grammar.{AllInner}
use Rattle.dvi_doc.specs.Order.{Reaches, reading}
use Rattle.dvi_doc.specs.Order.Part.{Inside}
use Rattle.dvi_doc.specs.Standing.{Stands, definitions_at}
use Rattle.dvi_doc.proofs.page.read_page.Given as goal

abbrev pub invariant-loop-at : goal.invariant-loop-at
invariant-loop-at l =
    record {
      onward : l.start ≤ l.at;
      inside : l.at ≤ l.ends;
      holds : (cs : List Placed) × AllInner cs × Lexes l.start (slice_range l.bytes l.start l.at) cs × (definitions_at l.bytes l.earlier.items ≡ definitions_at l.bytes l.fn.earlier.items ++ definitions_of cs);
      stands : All (Stands l.bytes) l.fn.earlier.items → All (Stands l.bytes) l.earlier.items;
      reached : (last : ℤ) → Reaches l.bytes l.start (reading Inside last 0) → Reaches l.bytes l.at (reading Inside last 0);
    }

abbrev pub decreases-loop-at : goal.decreases-loop-at
decreases-loop-at l = l.ends - l.at
