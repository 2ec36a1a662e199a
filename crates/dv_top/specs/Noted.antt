-- What is noted of pages besides their marks on the paper.
use Rattle.std.specs.Prelude.{◌≡◌, ◌⊎◌, ℕ, ℤ, List, [], ◌∷◌, ◌++◌, Bool, true, false, Option, Some, None, length, nat_lt, take, drop, if◌then◌else◌}
use Rattle.positions.specs.Mark.{Mark}
use Rattle.specials.specs.Special.{special_of}
use Rattle.sections.specs.Used as used
use Rattle.sections.specs.Used.{HasTaken, SameFonts, Used}
use Rattle.dv_words.specs.Jobs.{PrintJob}
use Rattle.dv_top.specs.Headers.{header_names, names_in, with_name}
use Rattle.dv_top.specs.Papers.{paper_after}
use Rattle.dv_top.specs.Specials.{first_page, last_page, specials_in, specials_of}
use Rattle.dv_top.specs.Warnings.{heads_in}

-- What the words say of paper and warnings; whether a page was begun, and whether one more was; what the page that was begun last uses;
-- and what was noted of all pages: the paper that specials of the first one name, the first 65 names of headers, and the heads of
-- specials of which is to be warned.
pub record Noted : Type 0 where
  pub words : Option (ℤ × ℤ)
  pub quiet : Bool
  pub pass : Bool
  pub begun : Bool
  pub later : Bool
  pub used : Used
  pub paper : Option (ℤ × ℤ)
  pub headers : List (List ℕ)
  pub heads : List (List ℕ)

-- ---- what marks add

-- on the first page alone a special may name the paper
abbrev pub paper_noted : Bool → Option (ℤ × ℤ) → List (List ℕ) → Option (ℤ × ℤ)
paper_noted true paper specials = paper
paper_noted false paper specials = paper_after paper specials

-- names of headers, and one more; with 65 of them there are too many, and none is added
abbrev pub name_noted : List (List ℕ) → List ℕ → List (List ℕ)
name_noted names name = if nat_lt 64 (length names) then names else with_name names name

abbrev pub names_noted : List (List ℕ) → List (List ℕ) → List (List ℕ)
names_noted names [] = names
names_noted names (x ∷ xs) = names_noted (name_noted names x) xs

-- where it isn't to be quiet, the heads of specials for which nothing is done
abbrev pub heads_noted : Bool → Bool → List (List ℕ) → List (List ℕ)
heads_noted true pass specials = []
heads_noted false pass specials = heads_in pass specials

-- the same words, the same place in the pages
pub record SameCourse (old new : Noted) : Type 0 where
  pub words : new.words ≡ old.words
  pub quiet : new.quiet ≡ old.quiet
  pub pass : new.pass ≡ old.pass
  pub begun : new.begun ≡ old.begun
  pub later : new.later ≡ old.later

-- From the earlier to the later these marks were taken: their glyphs are used, and their specials are noted.
pub record Takes (old new : Noted) (marks : List Mark) : Type 0 where
  pub same : SameCourse old new
  pub used : used.Takes old.used new.used marks
  pub paper : new.paper ≡ paper_noted old.later old.paper (specials_in marks)
  pub headers : new.headers ≡ names_noted old.headers (names_in (specials_in marks))
  pub heads : new.heads ≡ old.heads ++ heads_noted old.quiet old.pass (specials_in marks)

-- ---- what pages leave

abbrev pub has_some : List (List Mark) → Bool
has_some [] = false
has_some (page ∷ pages) = true

-- What was noted for a job is what these pages say, of which the last one may go on.
pub record HasNoted (job : PrintJob) (n : Noted) (pages : List (List Mark)) : Type 0 where
  pub words : n.words ≡ job.paper
  pub quiet : n.quiet ≡ job.quiet
  pub pass : n.pass ≡ job.pass_ps
  pub begun : n.begun ≡ has_some pages
  pub later : n.later ≡ has_some (drop 1 pages)
  pub used : HasTaken n.used (last_page pages)
  pub paper : n.paper ≡ paper_after None (specials_in (first_page pages))
  pub headers : n.headers ≡ take 65 (header_names job.headers pages)
  pub heads : n.heads ≡ heads_noted job.quiet job.pass_ps (specials_of pages)

-- Marks that are taken go on the last page.
abbrev pub PagesGoOn : Type 0
PagesGoOn =
    (job : PrintJob) (old new : Noted) (front : List (List Mark)) (page marks : List Mark) → Takes old new marks → HasNoted job old (front ++ page ∷ [])
    → HasNoted job new (front ++ (page ++ marks) ∷ [])
