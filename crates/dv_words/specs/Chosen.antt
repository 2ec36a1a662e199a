-- The pages that are chosen from a document, and why none are.
use Rattle.std.specs.Prelude.{◌≡◌, ◌<◌, ◌≤◌, ℕ, ℤ, pos, List, Bool, Option, Ok, Err, length, map, slice_index_or}
use Rattle.dvi_doc.specs.View.{Outline}
use Rattle.dv_words.specs.Selection.{chosen, spans_of, wanted_in}
use Rattle.dv_words.specs.declared.pages.Windows.{Windows}
use Rattle.dv_words.specs.declared.pages.Parity.{Parity}
use Rattle.dv_words.specs.declared.spans.Span.{Span}
use Rattle.dv_words.specs.declared.selection.SelectFault.{SelectFault}
use Rattle.dv_words.specs.declared.selection.SelectFault.TheVariants.{NoSuchPage, TooManyPages, OutOfMemory}

-- a page's number is its count 0
abbrev pub number_of : Outline → ℤ
number_of page = slice_index_or page.counts 0 (pos 0)

abbrev pub numbers_of : List Outline → List ℤ
numbers_of pages = map number_of pages

module _ (numbers : List ℤ) (windows : Windows) (parity : Parity) (limit : Option ℕ) (reversed : Bool) (collated : ℕ) where
  -- all numbers of the windows are there, and these are the places of the chosen pages
  pub record IsChosen (places : List ℕ) : Type 0 where
    pub spans : List Span
    pub are : spans_of numbers (wanted_in windows) ≡ Ok spans
    pub is : places ≡ chosen numbers spans parity limit reversed collated
    pub few : length places ≤ 1000000

  -- all numbers are there, and too many pages would be chosen
  pub record IsTooMany : Type 0 where
    pub spans : List Span
    pub are : spans_of numbers (wanted_in windows) ≡ Ok spans
    pub many : 1000000 < length (chosen numbers spans parity limit reversed collated)

  abbrev pub IsCause : SelectFault → Type 0
  IsCause (NoSuchPage number) = spans_of numbers (wanted_in windows) ≡ Err number
  IsCause TooManyPages = IsTooMany
  IsCause OutOfMemory = Unit {0}
