-- A document that can be copied, its copy, what that means, and its warnings.
use Rattle.std.specs.Prelude.{◌≡◌, ◌≤◌, ◌^◌, ◌-◌, ℕ, pos, List, [], ◌∷◌, ◌++◌, length, None}
use Rattle.std.specs.List.{All}
use Rattle.dv_base.specs.Shelf.{Told, WhereHeld}
use Rattle.dv_base.specs.declared.units.Units.{Units}
use Rattle.tfm_widths.specs.Widths.{Table}
use Rattle.dvi_ops.specs.Command.{Definition}
use Rattle.dvi_ops.specs.Placed.{Lexes, Placed}
use Rattle.dvi_doc.specs.Document.{Document, PageOf}
use Rattle.dvi_doc.specs.Grammar.{IsDoc}
use Rattle.dv_words.specs.Jobs.{CopyJob}
use Rattle.font_set.specs.FontOf.{FontOf}
use Rattle.font_set.specs.Fonts.{FontSet, State}
use Rattle.font_set.specs.Key.{Key}
use Rattle.font_set.specs.declared.want.Want.TheVariants as wants
use Rattle.vf_expand.specs.Grid.{Grid}
use Rattle.vf_expand.specs.Page.{IsShallowPage, page_marks, pages_count}
use Rattle.dvicopy_out.specs.Copies.{Page, Work, file}
use Rattle.dvicopy_out.specs.Cuts.{HoldsFirst, find, fonts_before}
use Rattle.dvicopy_out.specs.Keyed.{AreSame, keyed_marks}
use Rattle.dvicopy_out.specs.Numbered.{definition}
use Rattle.dvicopy_out.specs.Units.{SamePages, Serves}
use Rattle.dv_top.specs.Copying.{copied_pages, copy_grid, copy_units, copy_work, picked}
use Rattle.dv_top.specs.Covered.{IsNumbered}
use Rattle.dv_top.specs.Each.{Each}
use Rattle.dv_top.specs.Printing.{IsMarked, most_steps}
use Rattle.dv_top.specs.Scaled.{magnified}
use Rattle.dv_top.specs.Wanted.{Covered, doc_of, set_of}
use Rattle.dv_top.specs.Warnings.{checksum_lines}

-- The fonts cover the chosen pages, and are numbered in the order in which these select them; the marks of all pages are defined, no push
-- in them is too deep, and their commands are not too many.
pub record Walkable (job : CopyJob) (told : Told) : Type 0 where
  pub covered : Covered job told
  pub numbered : IsNumbered (set_of covered) (doc_of covered).fonts (picked (doc_of covered) job)
  pub marked : Each (IsMarked (copy_grid (doc_of covered) job) (set_of covered) (doc_of covered).fonts) (picked (doc_of covered) job)
  pub shallow : Each (λ p. IsShallowPage (copy_grid (doc_of covered) job) (set_of covered) (doc_of covered).fonts p.commands) (picked (doc_of covered) job)
  pub few : pages_count (set_of covered) (doc_of covered).fonts (picked (doc_of covered) job) ≤ most_steps

module _ {job : CopyJob} {told : Told} where
  -- what the copy is made of, and its pages
  abbrev pub work_for : Walkable job told → Work
  work_for w = copy_work (doc_of w.covered) job (set_of w.covered)

  abbrev pub pages_for : Walkable job told → List Page
  pages_for w = copied_pages (copy_grid (doc_of w.covered) job) (set_of w.covered) (doc_of w.covered).fonts (picked (doc_of w.covered) job)

  -- the whole copy
  abbrev pub copy_for : Walkable job told → List ℕ
  copy_for w = file (work_for w) (pages_for w)

  -- the lines that warn
  abbrev pub warnings_for : Walkable job told → List (List ℕ)
  warnings_for w = checksum_lines (set_of w.covered)

-- the most bytes of a copy
abbrev pub longest_copy : ℕ
longest_copy = 2 ^ 31 - 1

-- The definition is of a real font, whose key has what the definition says: the held files of the key tell a TFM file, and no VF file.
pub record IsRealFont (told : Told) (units : Units) (d : Definition) : Type 0 where
  pub number : ℕ
  pub key : Key
  pub same : definition number key ≡ d
  pub tfm : Table
  pub tells : WhereHeld told.held (λ held. FontOf held units wants.Packets key (State.Real tfm None))

-- Page for page two documents have the same counts and, on a grid, the same marks, whole, with keys in place of the numbers of fonts: the
-- one with these fonts, the other with those.
abbrev pub SameMarks : Grid → FontSet → FontSet → List Definition → List PageOf → List Definition → List PageOf → Type 0
SameMarks h fonts set es [] ds [] = Unit {0}
SameMarks h fonts set es [] ds (p ∷ ps) = ⊥
SameMarks h fonts set es (q ∷ qs) ds [] = ⊥
SameMarks h fonts set es (q ∷ qs) ds (p ∷ ps) =
    (q.counts ≡ p.counts) × AreSame (keyed_marks fonts (page_marks h fonts es q.commands)) (keyed_marks set (page_marks h set ds p.commands)) × SameMarks h fonts set es qs ds ps

-- What a copy means. Its bytes are a document; this has the numbers and the comment of the one that was read, and the magnification in
-- force; each font that it defines is real; and it has the chosen pages, in their order: page for page the same counts and, in units and by
-- the keys of their fonts, the same marks, specials among them, at any resolutions and any drift limit, in any set of fonts in which the
-- copied ones are real and have the same widths. Where no place may drift they have the same pixels too, at any two resolutions.
pub record IsCopy {job : CopyJob} {told : Told} (w : Walkable job told) (bytes : List ℕ) : Type 0 where
  pub copy : Document
  pub is : IsDoc bytes copy
  pub num : copy.head.num ≡ (doc_of w.covered).head.num
  pub den : copy.head.den ≡ (doc_of w.covered).head.den
  pub mag : copy.head.mag ≡ magnified (doc_of w.covered).head.mag job.mag
  pub comment : copy.head.comment ≡ (doc_of w.covered).head.comment
  pub real : All (IsRealFont told (copy_units (doc_of w.covered) job)) copy.fonts
  pub pages : (fonts : FontSet) (g : Grid) → Serves (set_of w.covered) fonts → SamePages (set_of w.covered) fonts g copy.fonts (pages_for w) copy.pages
  pub marks : (fonts : FontSet) (h : Grid) → Serves (set_of w.covered) fonts → h.drift ≡ pos 0 → SameMarks h fonts (set_of w.covered) copy.fonts copy.pages (doc_of w.covered).fonts (picked (doc_of w.covered) job)

-- A front of the copy. What stands whole in it, read command by command with the fonts that are defined before its first bop, gives complete
-- pages, which are the first chosen ones in counts and marks; and the marks of an unfinished page are a front of the next one's.
pub record IsFront {job : CopyJob} {told : Told} (w : Walkable job told) (written : List ℕ) : Type 0 where
  pub missing : List ℕ
  pub splits : copy_for w ≡ written ++ missing
  pub pages : (fonts : FontSet) (g : Grid) → Serves (set_of w.covered) fonts → (front rest : List ℕ) (read : List Placed) → written ≡ front ++ rest → Lexes 0 front read
      → HoldsFirst (set_of w.covered) fonts g (fonts_before read) (pages_for w) (find read None).complete (find read None).unfinished

-- A document that can be copied: the copy isn't too long.
pub record Copyable (job : CopyJob) (told : Told) : Type 0 where
  pub walkable : Walkable job told
  pub short : length (copy_for walkable) ≤ longest_copy
