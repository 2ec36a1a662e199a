-- Which pages of a document are chosen.
use Rattle.std.specs.Prelude.{◌≡◌, ℕ, ℤ, List, [], ◌∷◌, map, Bool, Option, Some, None, Result, Ok, Err, slice_get}
use Rattle.dvi_doc.specs.Document.{Document, PageOf}
use Rattle.dvi_doc.specs.Grammar.{IsDoc}
use Rattle.dvi_doc.specs.View.{ReadDoc, outline}
use Rattle.dv_words.specs.Chosen.{IsCause, IsChosen, numbers_of}
use Rattle.dv_words.specs.Selection.{chosen, spans_of, wanted_in}
use Rattle.dv_words.specs.declared.pages.Windows.{Windows}
use Rattle.dv_words.specs.declared.pages.Parity.{Parity}
use Rattle.dv_words.specs.declared.selection.SelectFault.{SelectFault}
use Rattle.dv_words.specs.declared.selection.SelectFault.TheVariants as select
use Rattle.dv_words.specs.declared.spans.Span.{Span}
use Rattle.dv_top.specs.declared.outcome.Outcome.{Outcome}
use Rattle.dv_top.specs.declared.outcome.Outcome.TheVariants as outcome

-- the numbers of a document's pages, count 0 of each
abbrev pub numbers_in : Document → List ℤ
numbers_in doc = numbers_of (map outline doc.pages)

-- What is asked of the pages: windows, a parity, a limit, whether they are reversed, and how often the list is repeated.
pub record Request : Type 0 where
  pub windows : Windows
  pub parity : Parity
  pub limit : Option ℕ
  pub reversed : Bool
  pub collated : ℕ

-- the same, where the list isn't repeated
abbrev pub once : Request → Request
once asked = record asked { collated = 1 }

abbrev pub places_by : List ℤ → Request → Result (List Span) ℤ → List ℕ
places_by numbers asked (Ok spans) = chosen numbers spans asked.parity asked.limit asked.reversed asked.collated
places_by numbers asked (Err number) = []

-- the places of the chosen pages in the document, in output order; none where a number that is asked for isn't there
abbrev pub places_of : Document → Request → List ℕ
places_of doc asked = places_by (numbers_in doc) asked (spans_of (numbers_in doc) (wanted_in asked.windows))

abbrev pub put_page : Option PageOf → List PageOf → List PageOf
put_page None pages = pages
put_page (Some p) pages = p ∷ pages

-- the pages at these places
abbrev pub pages_at : List PageOf → List ℕ → List PageOf
pages_at pages [] = []
pages_at pages (place ∷ places) = put_page (slice_get pages place) (pages_at pages places)

-- The chosen pages, in output order.
abbrev pub pages_of : Document → Request → List PageOf
pages_of doc asked = pages_at doc.pages (places_of doc asked)

-- All numbers that are asked for are there, and the pages are not too many.
abbrev pub IsChoice : Document → Request → Type 0
IsChoice doc asked = IsChosen (numbers_in doc) asked.windows asked.parity asked.limit asked.reversed asked.collated (places_of doc asked)

-- Why no pages are chosen.
abbrev pub IsNoChoice : Document → Request → SelectFault → Type 0
IsNoChoice doc asked fault = IsCause (numbers_in doc) asked.windows asked.parity asked.limit asked.reversed asked.collated fault

-- the outcome that tells of it
abbrev pub SelectTells : SelectFault → Outcome → Type 0
SelectTells (select.NoSuchPage number) o = o ≡ outcome.NoSuchPage number
SelectTells select.TooManyPages o = o ≡ outcome.TooManyPages
SelectTells select.OutOfMemory o = o ≡ outcome.OutOfMemory

-- No pages were chosen.
abbrev pub NotChosen : Document → Request → Outcome → Type 0
NotChosen doc asked o = (fault : SelectFault) × SelectTells fault o × IsNoChoice doc asked fault

-- The document that was read has these pages at these places. No public clause cites this.
pub record ArePages (r : ReadDoc) (places : List ℕ) (pages : List PageOf) : Type 0 where
  pub doc : Document
  pub is : IsDoc r.bytes doc
  pub at : map (slice_get doc.pages) places ≡ map Some pages
