-- A number of a window that isn't there. No public clause cites it.
use Rattle.std.specs.Prelude.{◌≡◌, ℤ, List, Err}
use Rattle.dv_words.specs.Selection.{spans_of}
use Rattle.dv_words.specs.declared.spans.Wanted.{Wanted}
use Rattle.dv_words.specs.declared.selection.SelectFault.{SelectFault}
use Rattle.dv_words.specs.declared.selection.SelectFault.TheVariants.{NoSuchPage, TooManyPages, OutOfMemory}

abbrev pub IsAbsent : List ℤ → List Wanted → SelectFault → Type 0
IsAbsent numbers wanted (NoSuchPage number) = spans_of numbers wanted ≡ Err number
IsAbsent numbers wanted TooManyPages = ⊥
IsAbsent numbers wanted OutOfMemory = Unit {0}
