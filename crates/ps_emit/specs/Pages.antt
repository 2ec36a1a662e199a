-- The text of a job whose pages are given by their marks, and the way in which the calls of the writer put it together.
use Rattle.std.specs.Prelude.{ℕ, ℤ, Bool, List, [], ◌∷◌, ◌++◌, map, codes}
use Rattle.positions.specs.Mark.{Mark}
use Rattle.font_set.specs.Fonts.{FontSet}
use Rattle.sections.specs.Used.{used_in}
use Rattle.ps_subset.specs.Prolog.{line}
use Rattle.ps_subset.specs.Lines.{comment_line}
use Rattle.ps_subset.specs.FontText.{fonts_lines}
use Rattle.ps_subset.specs.Printout as printout
use Rattle.ps_subset.specs.Marked as marked
use Rattle.ps_subset.specs.Marked.{MarkedPrintout}
use Rattle.ps_emit.specs.Setup.{head_of, job_of, prologue_of, trailer_of}
use Rattle.ps_emit.specs.Letters.{fonts_used}
use Rattle.ps_emit.specs.Shapes.{shapes_of}
use Rattle.ps_emit.specs.Sheet.{first_sheet, marks_lines, marks_sheet, page_end}
use Rattle.ps_emit.specs.declared.setup.Setup.{Setup}

-- a page: the number that it has in the document, its number in the text, and its marks in the order in which they are put on the paper
pub record PrintedPage : Type 0 where
  pub label : ℤ
  pub number : ℕ
  pub marks : List Mark

-- all that a text is made of, besides its setup: the headers that are passed on, the fonts of the run, whether literal specials are passed on, and the
-- sections, each of which has pages
pub record Work : Type 0 where
  pub headers : List (List ℕ)
  pub fonts : FontSet
  pub pass : Bool
  pub sections : List (List PrintedPage)

-- the marks of pages, one after another
abbrev pub marks_of : List PrintedPage → List Mark
marks_of [] = []
marks_of (p ∷ ps) = p.marks ++ marks_of ps

-- A section has the fonts that its pages use, with the characters that they use.
abbrev pub page_of : FontSet → Bool → PrintedPage → marked.Page
page_of set pass p = record { label = p.label; number = p.number; marks = shapes_of set pass p.marks }

abbrev pub section_of : FontSet → Bool → List PrintedPage → marked.Section
section_of set pass ps = record { fonts = fonts_used set (used_in (marks_of ps)); pages = map (page_of set pass) ps }

abbrev pub text_of_job : Bool → Setup → Work → MarkedPrintout
text_of_job comments s w = record {
  comments = comments;
  head = head_of comments s;
  headers = w.headers;
  copies = s.copies;
  job = job_of s;
  sections = map (section_of w.fonts w.pass) w.sections;
}

-- its bytes
abbrev pub bytes_of_job : Bool → Setup → Work → List ℕ
bytes_of_job comments s w = printout.text_of (marked.printout_of (text_of_job comments s w))

-- what begins a page, before its marks
abbrev pub page_begin : Bool → ℤ → ℕ → List ℕ
page_begin comments label number = comment_line comments (printout.page_comment (record { label = label; number = number; items = [] })) ++ line (codes "bop")

-- a page: its beginning, the lines of its marks, its end
abbrev pub page_calls : Bool → Bool → PrintedPage → List ℕ
page_calls comments pass p = page_begin comments p.label p.number ++ (marks_lines pass first_sheet p.marks ++ page_end (marks_sheet pass first_sheet p.marks))

abbrev pub pages_calls : Bool → Bool → List PrintedPage → List ℕ
pages_calls comments pass [] = []
pages_calls comments pass (p ∷ ps) = page_calls comments pass p ++ pages_calls comments pass ps

-- a section: its beginning, its fonts, its pages, its end
abbrev pub section_calls : Bool → FontSet → Bool → List PrintedPage → List ℕ
section_calls comments set pass ps = line (codes "bos") ++ (fonts_lines (fonts_used set (used_in (marks_of ps))) ++ (pages_calls comments pass ps ++ line (codes "eos")))

abbrev pub sections_calls : Bool → FontSet → Bool → List (List PrintedPage) → List ℕ
sections_calls comments set pass [] = []
sections_calls comments set pass (ps ∷ pss) = section_calls comments set pass ps ++ sections_calls comments set pass pss

abbrev pub job_calls : Bool → Setup → Work → List ℕ
job_calls comments s w = prologue_of comments s w.headers ++ (sections_calls comments w.fonts w.pass w.sections ++ trailer_of comments)
