-- A job that can be printed, the text that it makes, the events that it owes, and its warnings.
use Rattle.std.specs.Prelude.{◌≡◌, ℕ, ◌≤◌, List, [], ◌++◌, length, Some}
use Rattle.dv_base.specs.Shelf.{Told}
use Rattle.dv_words.specs.Jobs.{PrintJob}
use Rattle.vf_expand.specs.Page.{IsShallowPage, pages_count}
use Rattle.sections.specs.Cost.{marks_cost}
use Rattle.ps_subset.specs.Economy.{AllOnce, IsEconomical, page_texts, put_glyphs, sections_glyphs, sections_stretches}
use Rattle.ps_subset.specs.Marked.{printout_of}
use Rattle.ps_subset.specs.Marks.{without_texts}
use Rattle.ps_subset.specs.Printout.{Printout}
use Rattle.ps_subset.specs.Run.{events}
use Rattle.ps_subset.specs.State.{Character, Event}
use Rattle.ps_emit.specs.Expected.{expected}
use Rattle.ps_emit.specs.Pages.{PrintedPage, Work, bytes_of_job, text_of_job}
use Rattle.ps_emit.specs.declared.setup.Setup.{Setup}
use Rattle.dv_top.specs.Covered.{Covered, IsNumbered, chosen_marks, doc_of, set_of}
use Rattle.dv_top.specs.Each.{Each}
use Rattle.dv_top.specs.Headers.{HeldEach}
use Rattle.dv_top.specs.Papers.{paper_of}
use Rattle.dv_top.specs.Printing.{IsSetupOf, chosen, grid_of, most_steps, printed, printed_from, work_of}
use Rattle.dv_top.specs.Reasons.{most_headers, names_for}
use Rattle.dv_top.specs.Warnings.{warnings_of}

-- The fonts cover the chosen pages, and are numbered in the order in which these select them; the marks of all pages are defined, no push
-- in them is too deep, and their commands are not too many; the headers are held, and not too many; each page is within the budget.
pub record Printable (job : PrintJob) (told : Told) : Type 0 where
  pub covered : Covered job told
  pub numbered : IsNumbered (set_of covered) (doc_of covered).fonts (chosen (doc_of covered) job)
  pub pages : List PrintedPage
  pub are : printed_from (grid_of (doc_of covered) job) (set_of covered) (doc_of covered).fonts 1 (printed (doc_of covered) job) ≡ Some pages
  pub shallow : Each (λ p. IsShallowPage (grid_of (doc_of covered) job) (set_of covered) (doc_of covered).fonts p.commands) (chosen (doc_of covered) job)
  pub few : pages_count (set_of covered) (doc_of covered).fonts (chosen (doc_of covered) job) ≤ most_steps
  pub few_headers : length (names_for covered) ≤ most_headers
  pub headers : List (List ℕ)
  pub held : HeldEach told (names_for covered) headers
  pub light : Each (λ p. marks_cost (set_of covered) p.marks ≤ job.memory) pages
  pub setup : Setup
  pub asked : IsSetupOf job (paper_of job.paper (chosen_marks covered)) (length pages) setup

module _ {job : PrintJob} {told : Told} where
  -- what the text is made of: the headers, the fonts, the sections
  abbrev pub work_for : Printable job told → Work
  work_for p = work_of job (set_of p.covered) p.headers p.pages

  -- the whole text
  abbrev pub text_for : Printable job told → List ℕ
  text_for p = bytes_of_job job.comments p.setup (work_for p)

  -- what it is made of: the items of each page, and for each section its fonts with the glyphs that its pages use
  abbrev pub printout_for : Printable job told → Printout
  printout_for p = printout_of (text_of_job job.comments p.setup (work_for p))

  -- the events that are owed
  abbrev pub owed_for : Printable job told → List Event
  owed_for p = expected job.comments p.setup (work_for p)

  -- the lines that warn
  abbrev pub warnings_for : Printable job told → List (List ℕ)
  warnings_for p = warnings_of job.quiet job.pass_ps (set_of p.covered) (chosen_marks p.covered)

-- The text runs, and but for the strings that are shown its events are those that are owed. It is economical: the strings of each page are its
-- stretches, and each glyph that a section's pages use is put once in the section, and no other.
pub record Shows (text : List ℕ) (t : Printout) (owed : List Event) : Type 0 where
  pub all : List Event
  pub run : events text ≡ Some all
  pub same : without_texts all ≡ owed
  pub spares : IsEconomical t all

-- So is a text that is cut: it shows the first of the pages' stretches and puts the first of the sections' glyphs, of which none stands twice
-- in a section.
pub record IsEconomicalSoFar (t : Printout) (so_far : List Event) : Type 0 where
  pub texts_later : List (List Event)
  pub texts : sections_stretches t.job t.sections ≡ page_texts [] so_far ++ texts_later
  pub glyphs_later : List Character
  pub glyphs : sections_glyphs t.sections ≡ put_glyphs [] so_far ++ glyphs_later
  pub once : AllOnce t.sections

-- A front of the text, which runs to the first of the events that are owed, and is economical so far.
pub record IsFront (text : List ℕ) (t : Printout) (owed : List Event) (written : List ℕ) : Type 0 where
  pub missing : List ℕ
  pub splits : text ≡ written ++ missing
  pub so_far : List Event
  pub later : List Event
  pub run : events written ≡ Some so_far
  pub first : owed ≡ without_texts so_far ++ later
  pub spares : IsEconomicalSoFar t so_far
