use Rattle.std.proofs.Common.{◌≡◌, ◌≤◌, ◌-◌, ℕ, ℤ, length}
use Rattle.std.specs.List.{All}
use Rattle.dvi_ops.specs.Numbered.{numbered}
use Rattle.dvi_doc.specs.Grammar.{numbers_of}
use Rattle.dvi_doc.specs.Order.{Reaches, reading}
use Rattle.dvi_doc.specs.Order.Part.{Behind}
use Rattle.dvi_doc.specs.PartFaults.{AreJudged}
use Rattle.dvi_doc.specs.Standing.{HoldsEnding, Stands, definitions_at}
use Rattle.dvi_doc.proofs.postamble.read_postamble.Given as goal

abbrev pub invariant-loop-at : goal.invariant-loop-at
invariant-loop-at l =
    record {
      onward : l.start ≤ l.at;
      inside : l.at ≤ l.ends;
      few : length l.fonts.items ≤ l.at;
      holds : HoldsEnding l.bytes l.start l.at (definitions_at l.bytes l.fonts.items);
      stands : All (Stands l.bytes) l.fonts.items;
      numbered : l.numbers ≡ numbered 0 (numbers_of (definitions_at l.bytes l.fonts.items));
      judged : AreJudged (definitions_at l.bytes l.fonts.items) l.fault;
      reached : (last : ℤ) (post : ℕ) → Reaches l.bytes l.start (reading Behind last post) → Reaches l.bytes l.at (reading Behind last post);
    }

abbrev pub decreases-loop-at : goal.decreases-loop-at
decreases-loop-at l = l.ends - l.at
