use Rattle.std.proofs.Common.{◌≡◌, ◌<◌, List, Some}
use Rattle.dvi_doc.specs.Document.{PageOf}
use Rattle.ps_emit.specs.Pages.{PrintedPage}
use Rattle.ps_emit.specs.Shown.{Holds, comments_of, out_of, pass_of}
use Rattle.dv_top.specs.Printing.{printed_from}
use Rattle.dv_top.specs.Selecting.{ArePages}
use Rattle.dv_top.proofs.WrittenPages.{Before}
use Rattle.dv_top.proofs.write.write_pages.Given as goal

abbrev pub invariant-loop-index : goal.invariant-loop-index
invariant-loop-index g l =
    record {
      kept : l.walker.grid ≡ l.fn.walker.grid;
      holds : Holds {T = g.row.T.Denot} {G = g.T.Tray} l.fn.emitter l.emitter;
      begun : 0 < (out_of {T = g.row.T.Denot} {G = g.T.Tray} l.emitter).seen.begun;
      wrote : (pages : List PageOf) → ArePages l.doc l.places pages → (printed : List PrintedPage) → printed_from l.fn.walker.grid l.fonts l.doc.fonts l.first pages ≡ Some printed
          → Before l.fn.walker.grid l.fonts l.doc.fonts l.first l.index pages printed (comments_of {T = g.row.T.Denot} {G = g.T.Tray} l.fn.emitter) (pass_of {T = g.row.T.Denot} {G = g.T.Tray} l.fn.emitter) (out_of {T = g.row.T.Denot} {G = g.T.Tray} l.fn.emitter) (out_of {T = g.row.T.Denot} {G = g.T.Tray} l.emitter);
    }
