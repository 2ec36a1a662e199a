-- A text whose pages are given by their marks, and the events that it owes but for its strings.
use Rattle.std.specs.Prelude.{ℕ, ◌<◌, ◌≤◌, ◌^◌, ◌≡◌, List, [], ◌∷◌, ◌++◌, length, ℤ, pos, ◌+ℤ◌, ◌<ℤ◌, Bool, Some}
use Rattle.ps_subset.specs.State.{Event, Shown, in_order}
use Rattle.ps_subset.specs.Run.{events}
use Rattle.ps_subset.specs.Job.{Job, IsGoodJob, IsInRange}
use Rattle.ps_subset.specs.Lines.{AllNotes, comment_events, head_events}
use Rattle.ps_subset.specs.Fonts.{Font}
use Rattle.ps_subset.specs.Printout as printout
use Rattle.ps_subset.specs.Printout.{Printout, text_of, page_comment}
use Rattle.ps_subset.specs.FontText.{fonts_events, fonts_held, AllGoodFonts}
use Rattle.ps_subset.specs.Blocks.{headers_events, AllShort}
use Rattle.ps_subset.specs.Items.{font_in, IsIn, IsSmall}
use Rattle.ps_subset.specs.Marks.{Mark, Glyph, Bar, Passed, grouped, marks_events, without_texts}
use Rattle.std.specs.Prelude.{None, codes}

pub record Page : Type 0 where
  pub label : ℤ
  pub number : ℕ
  pub marks : List Mark

pub record Section : Type 0 where
  pub fonts : List Font
  pub pages : List Page

pub record MarkedPrintout : Type 0 where
  pub comments : Bool
  pub head : List (List ℕ)
  pub headers : List (List ℕ)
  pub copies : ℕ
  pub job : Job
  pub sections : List Section

-- the text that prints it
abbrev pub page_of : Page → printout.Page
page_of p = record { label = p.label; number = p.number; items = grouped None p.marks }

abbrev pub pages_of : List Page → List printout.Page
pages_of [] = []
pages_of (p ∷ ps) = page_of p ∷ pages_of ps

abbrev pub section_of : Section → printout.Section
section_of s = record { fonts = s.fonts; pages = pages_of s.pages }

abbrev pub sections_of : List Section → List printout.Section
sections_of [] = []
sections_of (s ∷ ss) = section_of s ∷ sections_of ss

abbrev pub printout_of : MarkedPrintout → Printout
printout_of t = record { comments = t.comments; head = t.head; headers = t.headers; copies = t.copies; job = t.job; sections = sections_of t.sections }

-- the events owed: the fonts of each section, and then the marks of its pages, each shown with the glyphs of the section
abbrev pub page_owed : Bool → ℕ → Job → List Font → Page → List Event
page_owed comments copies j fonts p = comment_events comments (page_comment (page_of p)) ++ (marks_events j p.marks ++ Shown copies (in_order (fonts_held fonts)) ∷ [])

abbrev pub pages_owed : Bool → ℕ → Job → List Font → List Page → List Event
pages_owed comments copies j fonts [] = []
pages_owed comments copies j fonts (p ∷ ps) = page_owed comments copies j fonts p ++ pages_owed comments copies j fonts ps

abbrev pub sections_owed : Bool → ℕ → Job → List Section → List Event
sections_owed comments copies j [] = []
sections_owed comments copies j (s ∷ ss) = (fonts_events s.fonts ++ pages_owed comments copies j s.fonts s.pages) ++ sections_owed comments copies j ss

abbrev pub owed : MarkedPrintout → List Event
owed t =
    head_events t.head ++
    (comment_events t.comments (codes "%%BeginProlog") ++
    (headers_events t.headers ++
    (comment_events t.comments (codes "%%EndProlog") ++
    (comment_events t.comments (codes "%%BeginSetup") ++
    (comment_events t.comments (codes "%%EndSetup") ++
    (sections_owed t.comments t.copies t.job t.sections ++
    (comment_events t.comments (codes "%%Trailer") ++
    comment_events t.comments (codes "%%EOF"))))))))

-- What is asked of it: a letter is one of its font's, and what it leads to is no farther than a number may be.
abbrev pub IsGoodMark : List Font → Mark → Type 0
IsGoodMark fonts (Glyph id l x y) = IsSmall x × IsSmall y × IsSmall (x +ℤ l.glyph.width) × ((f : Font) × (font_in fonts id ≡ Some f) × IsIn l f.letters)
IsGoodMark fonts (Bar columns rows x y) = IsSmall x × IsSmall y × (pos 0 <ℤ columns) × IsInRange columns × (pos 0 <ℤ rows) × IsInRange rows
IsGoodMark fonts (Passed bytes x y) = IsSmall x × IsSmall y × (length bytes < 2 ^ 63)

abbrev pub AllGoodMarks : List Font → List Mark → Type 0
AllGoodMarks fonts [] = Unit {0}
AllGoodMarks fonts (m ∷ ms) = IsGoodMark fonts m × AllGoodMarks fonts ms

abbrev pub AllGoodPages : List Font → List Page → Type 0
AllGoodPages fonts [] = Unit {0}
AllGoodPages fonts (p ∷ ps) = (IsInRange p.label × (p.number < 2 ^ 63) × AllGoodMarks fonts p.marks) × AllGoodPages fonts ps

abbrev pub AllGoodSections : List Section → Type 0
AllGoodSections [] = Unit {0}
AllGoodSections (s ∷ ss) = (AllGoodFonts 0 s.fonts × (length s.fonts ≤ 1000) × AllGoodPages s.fonts s.pages) × AllGoodSections ss

pub record IsGoodMarked (t : MarkedPrintout) : Type 0 where
  pub head : AllNotes t.head
  pub headers : AllShort t.headers
  pub copies_some : 0 < t.copies
  pub copies : t.copies < 65536
  pub job : IsGoodJob t.job
  pub sections : AllGoodSections t.sections

-- Such a text has a run, and its events without the strings are those that its marks owe.
abbrev pub EventsOfMarks : Type 0
EventsOfMarks = (t : MarkedPrintout) → IsGoodMarked t → (es : List Event) × (events (text_of (printout_of t)) ≡ Some es) × (without_texts es ≡ owed t)

-- So it is with each cut of it, whose events without the strings are the first of those.
abbrev pub EventsOfCutMarks : Type 0
EventsOfCutMarks =
    (t : MarkedPrintout) → IsGoodMarked t → (xs ys : List ℕ) → text_of (printout_of t) ≡ xs ++ ys →
    (so_far : List Event) × (later : List Event) × (events xs ≡ Some so_far) × (owed t ≡ without_texts so_far ++ later)
