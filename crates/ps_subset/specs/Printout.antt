-- A printout: the whole text of a job, with its head, the prolog, the headers that it passes on, its setup and its sections of fonts and pages; and the
-- events that its run owes.
use Rattle.std.specs.Prelude.{ℕ, ◌<◌, ◌≤◌, ◌^◌, List, [], ◌∷◌, ◌++◌, length, ℤ, codes, decimal, Bool}
use Rattle.ps_subset.specs.State.{Event, Shown, in_order}
use Rattle.ps_subset.specs.Prolog.{prolog, line}
use Rattle.ps_subset.specs.Job.{Job, IsGoodJob, IsInRange}
use Rattle.ps_subset.specs.Lines.{signed_field, comment_line, comment_events, head_lines, head_events, setup_lines, AllNotes}
use Rattle.ps_subset.specs.Fonts.{Font}
use Rattle.ps_subset.specs.Items.{Item, first_pen, lines_from, items_events, AllGoodItems}
use Rattle.ps_subset.specs.Blocks.{headers_lines, headers_events, AllShort}
use Rattle.ps_subset.specs.FontText.{fonts_lines, fonts_events, fonts_held, AllGoodFonts}

-- a page: the number that it has in the document, its number in the text, and its items
pub record Page : Type 0 where
  pub label : ℤ
  pub number : ℕ
  pub items : List Item

-- a section: the fonts that its pages use, by number, and its pages
pub record Section : Type 0 where
  pub fonts : List Font
  pub pages : List Page

-- A text: whether it has comments beside those of its head, the comments of its head, the headers that it passes on, the copies of each page,
-- the job and the sections.
pub record Printout : Type 0 where
  pub comments : Bool
  pub head : List (List ℕ)
  pub headers : List (List ℕ)
  pub copies : ℕ
  pub job : Job
  pub sections : List Section

abbrev pub page_comment : Page → List ℕ
page_comment p = codes "%%Page: " ++ (signed_field p.label ++ decimal p.number)

abbrev pub page_lines : Bool → Page → List ℕ
page_lines comments p = comment_line comments (page_comment p) ++ (line (codes "bop") ++ (lines_from first_pen p.items ++ line (codes "eop")))

abbrev pub pages_lines : Bool → List Page → List ℕ
pages_lines comments [] = []
pages_lines comments (p ∷ ps) = page_lines comments p ++ pages_lines comments ps

abbrev pub section_lines : Bool → Section → List ℕ
section_lines comments s = line (codes "bos") ++ (fonts_lines s.fonts ++ (pages_lines comments s.pages ++ line (codes "eos")))

abbrev pub sections_lines : Bool → List Section → List ℕ
sections_lines comments [] = []
sections_lines comments (s ∷ ss) = section_lines comments s ++ sections_lines comments ss

abbrev pub text_of : Printout → List ℕ
text_of t =
    head_lines t.head ++
    (comment_line t.comments (codes "%%BeginProlog") ++
    (prolog ++
    (headers_lines t.headers ++
    (comment_line t.comments (codes "%%EndProlog") ++
    (comment_line t.comments (codes "%%BeginSetup") ++
    (setup_lines t.copies t.job ++
    (comment_line t.comments (codes "%%EndSetup") ++
    (sections_lines t.comments t.sections ++
    (comment_line t.comments (codes "%%Trailer") ++
    (line (codes "end") ++
    comment_line t.comments (codes "%%EOF")))))))))))

abbrev pub page_events : Bool → ℕ → Job → List Font → Page → List Event
page_events comments copies j fonts p = comment_events comments (page_comment p) ++ (items_events j p.items ++ Shown copies (in_order (fonts_held fonts)) ∷ [])

abbrev pub pages_events : Bool → ℕ → Job → List Font → List Page → List Event
pages_events comments copies j fonts [] = []
pages_events comments copies j fonts (p ∷ ps) = page_events comments copies j fonts p ++ pages_events comments copies j fonts ps

abbrev pub section_events : Bool → ℕ → Job → Section → List Event
section_events comments copies j s = fonts_events s.fonts ++ pages_events comments copies j s.fonts s.pages

abbrev pub sections_events : Bool → ℕ → Job → List Section → List Event
sections_events comments copies j [] = []
sections_events comments copies j (s ∷ ss) = section_events comments copies j s ++ sections_events comments copies j ss

abbrev pub events_of : Printout → List Event
events_of t =
    head_events t.head ++
    (comment_events t.comments (codes "%%BeginProlog") ++
    (headers_events t.headers ++
    (comment_events t.comments (codes "%%EndProlog") ++
    (comment_events t.comments (codes "%%BeginSetup") ++
    (comment_events t.comments (codes "%%EndSetup") ++
    (sections_events t.comments t.copies t.job t.sections ++
    (comment_events t.comments (codes "%%Trailer") ++
    comment_events t.comments (codes "%%EOF"))))))))

pub record IsGoodPage (fonts : List Font) (p : Page) : Type 0 where
  pub label : IsInRange p.label
  pub number : p.number < 2 ^ 63
  pub items : AllGoodItems fonts p.items

abbrev pub AllGoodPages : List Font → List Page → Type 0
AllGoodPages fonts [] = Unit {0}
AllGoodPages fonts (p ∷ ps) = IsGoodPage fonts p × AllGoodPages fonts ps

pub record IsGoodSection (s : Section) : Type 0 where
  pub fonts : AllGoodFonts 0 s.fonts
  pub few : length s.fonts ≤ 1000
  pub pages : AllGoodPages s.fonts s.pages

abbrev pub AllGoodSections : List Section → Type 0
AllGoodSections [] = Unit {0}
AllGoodSections (s ∷ ss) = IsGoodSection s × AllGoodSections ss

pub record IsGoodText (t : Printout) : Type 0 where
  pub head : AllNotes t.head
  pub headers : AllShort t.headers
  pub copies_some : 0 < t.copies
  pub copies : t.copies < 65536
  pub job : IsGoodJob t.job
  pub sections : AllGoodSections t.sections
