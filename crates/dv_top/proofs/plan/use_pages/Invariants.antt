use Rattle.std.proofs.Common.{◌≡◌, List, take}
use Rattle.dvi_doc.specs.Document.{PageOf}
use Rattle.sections.specs.Used.{HasTaken, SameFonts}
use Rattle.dv_top.specs.Selecting.{ArePages}
use Rattle.dv_top.specs.Writing.{marks_in}
use Rattle.dv_top.proofs.plan.use_pages.Given as goal

abbrev pub invariant-loop-place : goal.invariant-loop-place
invariant-loop-place l =
    record {
      taken : (pages : List PageOf) → ArePages l.doc l.places pages → HasTaken l.usage (marks_in l.fn.walker.grid l.fonts l.doc.fonts (take l.place-index pages));
      same : SameFonts l.fn.usage l.usage;
      kept : l.walker.grid ≡ l.fn.walker.grid;
    }
