use Rattle.std.proofs.Common.{◌≡◌, List, take}
use Rattle.dvi_doc.specs.Document.{PageOf}
use Rattle.sections.specs.Cost.{IsPriced}
use Rattle.dv_top.specs.Planning.{HasDrafted}
use Rattle.dv_top.specs.Printing.{marks_of_each}
use Rattle.dv_top.specs.Selecting.{ArePages}
use Rattle.dv_top.proofs.plan.plan_pages.Given as goal

abbrev pub invariant-loop-index : goal.invariant-loop-index
invariant-loop-index l =
    record {
      drafted : (pages : List PageOf) → ArePages l.doc l.places pages → HasDrafted l.fonts l.fn.draft.planning.budget l.fn.draft.planning.most l.draft (marks_of_each l.fn.walker.grid l.fonts l.doc.fonts (take l.index pages));
      priced : IsPriced l.fonts l.usage;
      kept : l.walker.grid ≡ l.fn.walker.grid;
    }
