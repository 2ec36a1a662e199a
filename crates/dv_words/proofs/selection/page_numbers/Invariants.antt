use Rattle.std.proofs.Common.{◌≡◌, map, take}
use Rattle.dvi_doc.specs.View.{page_view}
use Rattle.dv_words.specs.Chosen.{numbers_of}
use Rattle.dv_words.proofs.selection.page_numbers.Given as goal

abbrev pub invariant-loop-page : goal.invariant-loop-page
invariant-loop-page l = l.numbers.items ≡ numbers_of (map page_view (take l.page-index l.pages))
