use Rattle.std.proofs.Common.{◌≡◌, List, [], take}
use Rattle.dvi_doc.specs.Document.{PageOf}
use Rattle.vf_expand.specs.Page.{pages_count}
use Rattle.sections.specs.Cost.{IsPriced}
use Rattle.dv_top.specs.Each.{Each}
use Rattle.dv_words.specs.Jobs.{PrintJob}
use Rattle.dv_top.specs.Noted.{HasNoted}
use Rattle.dv_top.specs.Planning.{HasDrafted}
use Rattle.dv_top.specs.Printing.{marks_of_each}
use Rattle.dv_top.specs.Selecting.{ArePages}
use Rattle.dv_top.specs.Writing.{IsReady}
use Rattle.dv_top.proofs.check.check_pages.Given as goal

abbrev pub invariant-loop-index : goal.invariant-loop-index
invariant-loop-index l =
    record {
      ready : (pages : List PageOf) → ArePages l.doc l.places pages → Each (IsReady l.fn.walker.grid l.fonts l.doc.fonts) (take l.index pages);
      steps : (pages : List PageOf) → ArePages l.doc l.places pages → l.walker.steps ≡ pages_count l.fonts l.doc.fonts (take l.index pages);
      noted : (pages : List PageOf) → ArePages l.doc l.places pages → (job : PrintJob) → HasNoted job l.fn.notes [] → HasNoted job l.notes (marks_of_each l.fn.walker.grid l.fonts l.doc.fonts (take l.index pages));
      priced : IsPriced l.fonts l.notes.used;
      drafted : (pages : List PageOf) → ArePages l.doc l.places pages → HasDrafted l.fonts l.fn.draft.planning.budget l.fn.draft.planning.most l.draft (marks_of_each l.fn.walker.grid l.fonts l.doc.fonts (take l.index pages));
      kept : l.walker.grid ≡ l.fn.walker.grid;
    }
