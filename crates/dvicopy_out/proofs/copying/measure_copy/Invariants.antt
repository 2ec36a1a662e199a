use Rattle.std.proofs.Common.{◌≡◌, take}
use Rattle.std.specs.List.{AllByRecursion}
use Rattle.dvicopy_out.specs.Copies.{pages_length}
use Rattle.dvicopy_out.specs.Counted.{counted}
use Rattle.dvicopy_out.specs.Made.{IsPutAt}
use Rattle.dvicopy_out.specs.Measured.{fonts_of}
use Rattle.dvicopy_out.specs.Pages.{IsReady, commands_at, copy_pages}
use Rattle.dvicopy_out.proofs.copying.measure_copy.Given as goal

abbrev pub invariant-loop-page : goal.invariant-loop-page
invariant-loop-page l = record {
  bytes : l.bytes ≡ counted 0 (pages_length l.fonts (copy_pages l.fn.walker.grid l.fonts l.doc (take l.page-index l.pages)));
  ready : AllByRecursion (IsReady l.fn.walker.grid l.fonts l.doc) (take l.page-index l.pages);
  put : AllByRecursion (IsPutAt l.fn.walker.grid l.fonts l.doc) (take l.page-index l.pages);
  steps : l.walker.steps ≡ commands_at l.fonts l.doc (take l.page-index l.pages);
  kept : l.walker.grid ≡ l.fn.walker.grid;
  same : fonts_of l.measure ≡ l.fonts;
}
