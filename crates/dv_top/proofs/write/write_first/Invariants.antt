use Rattle.std.proofs.Common.{◌≡◌, ◌<◌, List, Some, take, length}
use Rattle.std.specs.List.{sum}
use Rattle.dvi_doc.specs.Document.{PageOf}
use Rattle.ps_emit.specs.Pages.{PrintedPage, sections_calls}
use Rattle.ps_emit.specs.Shown.{Holds, comments_of, out_of, pass_of}
use Rattle.ps_emit.specs.Written.{Wrote}
use Rattle.dv_top.specs.Printing.{in_sections, printed_from}
use Rattle.dv_top.specs.Selecting.{ArePages}
use Rattle.dv_top.proofs.write.write_first.Given as goal

abbrev pub invariant-loop-count : goal.invariant-loop-count
invariant-loop-count g l =
    record {
      kept : l.walker.grid ≡ l.fn.walker.grid;
      holds : Holds {T = g.row.T.Denot} {G = g.T.Tray} l.fn.emitter l.emitter;
      begun : 0 < (out_of {T = g.row.T.Denot} {G = g.T.Tray} l.emitter).seen.begun;
      given : l.usage.fonts ≡ length l.fonts.fonts;
      done : l.done ≡ sum (take l.count-index l.plan);
      wrote : (pages : List PageOf) → ArePages l.doc l.places pages → (printed : List PrintedPage) → printed_from l.fn.walker.grid l.fonts l.doc.fonts 1 pages ≡ Some printed
          → Wrote (sections_calls (comments_of {T = g.row.T.Denot} {G = g.T.Tray} l.fn.emitter) l.fonts (pass_of {T = g.row.T.Denot} {G = g.T.Tray} l.fn.emitter) (in_sections (take l.count-index l.plan) printed)) (out_of {T = g.row.T.Denot} {G = g.T.Tray} l.fn.emitter) (out_of {T = g.row.T.Denot} {G = g.T.Tray} l.emitter);
    }
