-- What a document says of the pages that are printed, and the text that these make.
use Rattle.std.specs.Prelude.{◌≡◌, ℕ, ◌+◌, ◌*◌, ◌+ℤ◌, ℤ, pos, List, [], ◌∷◌, map, take, drop, Option, Some, None}
use Rattle.dv_base.specs.FileName.{text_of}
use Rattle.dv_base.specs.Rounding.{Fraction, rounded}
use Rattle.dv_base.specs.UnitPixels.{pixels_of_one}
use Rattle.dv_base.specs.declared.units.Units.{Units}
use Rattle.positions.specs.Mark.{Mark}
use Rattle.dvi_ops.specs.Command.{Definition}
use Rattle.dvi_doc.specs.Document.{Document, PageOf}
use Rattle.dv_words.specs.Jobs.{PrintJob}
use Rattle.font_set.specs.Fonts.{FontSet}
use Rattle.vf_expand.specs.Grid as grid
use Rattle.vf_expand.specs.Grid.{Grid}
use Rattle.vf_expand.specs.Marks.{marks_alone}
use Rattle.vf_expand.specs.Page.{page_marks}
use Rattle.sections.specs.Sections.{sections}
use Rattle.ps_emit.specs.Pages.{PrintedPage, Work}
use Rattle.ps_emit.specs.declared.setup.Setup.{Setup}
use Rattle.dv_top.specs.Scaled.{units_of}
use Rattle.dv_top.specs.Selecting.{Request, once, pages_of}

-- ---- units

-- those across and those down
abbrev pub units_across : Document → PrintJob → Units
units_across doc job = units_of doc job.mag job.dpi.0

abbrev pub units_down : Document → PrintJob → Units
units_down doc job = units_of doc job.mag job.dpi.1

-- how units turn into pixels, across and down, and how many pixels a place may drift
abbrev pub grid_with : Fraction → Fraction → ℕ → Grid
grid_with across down drift = record { across = across; down = down; drift = pos drift }

-- how the document's units turn into pixels for a job
abbrev pub grid_of : Document → PrintJob → Grid
grid_of doc job = grid_with (pixels_of_one (units_across doc job)) (pixels_of_one (units_down doc job)) job.drift

-- ---- pages

-- what a job asks of the pages
abbrev pub request_of : PrintJob → Request
request_of job = record { windows = job.windows; parity = job.parity; limit = job.limit; reversed = job.reverse; collated = job.collated }

-- The chosen pages, before their list is repeated, in output order.
abbrev pub chosen : Document → PrintJob → List PageOf
chosen doc job = pages_of doc (once (request_of job))

-- The pages that are printed, in the order in which they are.
abbrev pub printed : Document → PrintJob → List PageOf
printed doc job = pages_of doc (request_of job)

-- how many commands the chosen pages may run, those of packets counted
abbrev pub most_steps : ℕ
most_steps = 50000000

-- count 0 of a page, by which TeX numbers it
abbrev pub label_of : List ℤ → ℤ
label_of [] = pos 0
label_of (count ∷ counts) = count

-- a page with these marks as it is printed: its label, its number in the text, its marks
abbrev pub with_marks : PageOf → ℕ → List Mark → PrintedPage
with_marks p n marks = record { label = label_of p.counts; number = n; marks = marks }

abbrev pub where_marked : PageOf → ℕ → Option (List Mark) → Option PrintedPage
where_marked p n None = None
where_marked p n (Some marks) = Some (with_marks p n marks)

abbrev pub joined : Option PrintedPage → Option (List PrintedPage) → Option (List PrintedPage)
joined None ps = None
joined (Some p) None = None
joined (Some p) (Some ps) = Some (p ∷ ps)

-- The pages as they are printed, numbered on from n. Undefined where the marks of one of them are.
abbrev pub printed_from : Grid → FontSet → List Definition → ℕ → List PageOf → Option (List PrintedPage)
printed_from g set ds n [] = Some []
printed_from g set ds n (p ∷ ps) = joined (where_marked p n (marks_alone (page_marks g set ds p.commands))) (printed_from g set ds (n + 1) ps)

abbrev pub marks_or_none : Option (List Mark) → List Mark
marks_or_none None = []
marks_or_none (Some ms) = ms

-- The marks of each page, none where they aren't defined.
abbrev pub marks_of_each : Grid → FontSet → List Definition → List PageOf → List (List Mark)
marks_of_each g set ds [] = []
marks_of_each g set ds (p ∷ ps) = marks_or_none (marks_alone (page_marks g set ds p.commands)) ∷ marks_of_each g set ds ps

-- the marks of a page are defined
pub record IsMarked (g : Grid) (set : FontSet) (ds : List Definition) (p : PageOf) : Type 0 where
  pub marks : List Mark
  pub state : grid.State
  pub defined : page_marks g set ds p.commands ≡ Some (marks, state)

-- ---- sections

-- the marks of each of these pages
abbrev pub marks_alone_of : List PrintedPage → List (List Mark)
marks_alone_of pages = map (λ p. p.marks) pages

-- How many pages each section has: each is the longest front of the pages that are left whose glyphs cost no more than the budget.
abbrev pub plan_of : PrintJob → FontSet → List PrintedPage → List ℕ
plan_of job set pages = sections set job.memory job.per_section (marks_alone_of pages)

-- the pages in sections of these lengths
abbrev pub in_sections : List ℕ → List PrintedPage → List (List PrintedPage)
in_sections [] pages = []
in_sections (n ∷ ns) pages = take n pages ∷ in_sections ns (drop n pages)

-- ---- the text

-- What a text is made of, besides its setup: the bytes of the headers, the fonts, whether literal specials are passed on, the sections.
abbrev pub work_of : PrintJob → FontSet → List (List ℕ) → List PrintedPage → Work
work_of job set headers pages = record { headers = headers; fonts = set; pass = job.pass_ps; sections = in_sections (plan_of job set pages) pages }

-- The origin's pixel: one inch from the paper's corner, and the offset, in scaled points, in whole pixels.
abbrev pub origin_at : ℤ → ℕ → ℤ
origin_at offset dpi = pos dpi +ℤ rounded (record { top = dpi * 100; bottom = 473628672 }) offset

-- The setup of a job: the input's name, the paper, the resolutions, the origin and the copies.
pub record IsSetupOf (job : PrintJob) (paper : ℤ × ℤ) (pages : ℕ) (s : Setup) : Type 0 where
  pub title : text_of s.title ≡ job.input
  pub pages_all : s.pages ≡ pages
  pub width : s.paper.0 ≡ paper.0
  pub height : s.paper.1 ≡ paper.1
  pub across : s.dpi.0 ≡ job.dpi.0
  pub down : s.dpi.1 ≡ job.dpi.1
  pub origin_x : s.origin.0 ≡ origin_at job.offset.0 job.dpi.0
  pub origin_y : s.origin.1 ≡ origin_at job.offset.1 job.dpi.1
  pub copies : s.copies ≡ job.copies
