use Rattle.std.proofs.Common.{◌≡◌, ◌+◌, take, length, negsuc}
use Rattle.dvicopy_out.specs.Copies.{last_bop, pages_bytes}
use Rattle.dvicopy_out.specs.Pages.{commands_at, copy_pages}
use Rattle.dvicopy_out.specs.Sent.{Sent}
use Rattle.dvicopy_out.specs.Shown.{Holds, last_of, out_of, place_of}
use Rattle.dvicopy_out.proofs.copying.write_pages.Given as goal

abbrev pub invariant-loop-page : goal.invariant-loop-page
invariant-loop-page g l = record {
  sent : Sent (pages_bytes l.fonts (negsuc 0) (place_of l.fn.writer) (copy_pages l.fn.walker.grid l.fonts l.doc (take l.page-index l.pages))) (out_of l.fn.writer) (out_of l.writer);
  place : place_of l.writer ≡ place_of l.fn.writer + length (pages_bytes l.fonts (negsuc 0) (place_of l.fn.writer) (copy_pages l.fn.walker.grid l.fonts l.doc (take l.page-index l.pages)));
  last : last_of l.writer ≡ last_bop l.fonts (negsuc 0) (place_of l.fn.writer) (copy_pages l.fn.walker.grid l.fonts l.doc (take l.page-index l.pages));
  holds : Holds l.fn.writer l.writer;
  steps : l.walker.steps ≡ l.fn.walker.steps + commands_at l.fonts l.doc (take l.page-index l.pages);
  kept : l.walker.grid ≡ l.fn.walker.grid;
}
