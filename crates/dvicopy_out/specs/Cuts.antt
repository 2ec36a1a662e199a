-- A copy that was cut: what whoever reads its front command by command finds there.
use Rattle.std.specs.Prelude.{◌≡◌, ℕ, ℤ, List, [], ◌∷◌, ◌++◌, take, Option, Some, None}
use Rattle.dvi_ops.specs.Command.{Command, Definition}
use Rattle.dvi_ops.specs.Command.Command.{Bop, Eop, Post, FntDef}
use Rattle.dvi_ops.specs.Placed.{Placed, Lexes}
use Rattle.font_set.specs.Fonts.{FontSet}
use Rattle.vf_expand.specs.Grid.{Grid}
use Rattle.vf_expand.specs.Marks.{Outcome}
use Rattle.vf_expand.specs.Page.{page_marks}
use Rattle.dvicopy_out.specs.Copies.{Page, Work, file}
use Rattle.dvicopy_out.specs.Units.{AreOf, HasUnits, Serves, UnitMark, units_of}
use Rattle.dvicopy_out.specs.Writable.{IsPutCopy}

-- a page that was found: its counts, and the commands behind its bop
pub record Found : Type 0 where
  pub counts : List ℤ
  pub commands : List Placed

-- the pages that an eop ended, and the one that is still open
pub record Finds : Type 0 where
  pub complete : List Found
  pub unfinished : Option Found

abbrev pub completed : Option Found → Finds → Finds
completed None later = later
completed (Some p) later = record { complete = p ∷ later.complete; unfinished = later.unfinished }

abbrev pub grown : Option Found → Placed → Option Found
grown None c = None
grown (Some p) c = Some (record { counts = p.counts; commands = p.commands ++ c ∷ [] })

-- a bop opens a page, an eop ends it, and the post ends all; any other command belongs to the page that is open
abbrev pub found_at : Command → Placed → Option Found → (Option Found → Finds) → Finds
found_at (Bop counts back) c o next = next (Some (record { counts = counts; commands = [] }))
found_at Eop c o next = completed o (next None)
found_at (Post tail) c o next = record { complete = []; unfinished = o }
found_at _ c o next = next (grown o c)

abbrev pub find : List Placed → Option Found → Finds
find [] o = record { complete = []; unfinished = o }
find (c ∷ cs) o = found_at c.command c o (find cs)

-- the fonts that are defined before the first bop
abbrev pub fonts_at : Command → List Definition → List Definition
fonts_at (Bop counts back) ds = []
fonts_at (FntDef d) ds = d ∷ ds
fonts_at _ ds = ds

abbrev pub fonts_before : List Placed → List Definition
fonts_before [] = []
fonts_before (c ∷ cs) = fonts_at c.command (fonts_before cs)

-- the marks are defined, and in units they are a front of these
abbrev pub BeginsUnits : FontSet → List UnitMark → Outcome → Type 0
BeginsUnits other us None = ⊥
BeginsUnits other us (Some r) = (rest : List UnitMark) × (units_of other r.0 ++ rest ≡ us)

-- an unfinished page is the first of these, and has a front of its marks
abbrev pub IsUnfinished : FontSet → FontSet → Grid → List Definition → List Page → Option Found → Type 0
IsUnfinished set other g ds ps None = Unit {0}
IsUnfinished set other g ds [] (Some q) = ⊥
IsUnfinished set other g ds (p ∷ ps) (Some q) = (q.counts ≡ p.counts) × BeginsUnits other (units_of set p.marks) (page_marks g other ds q.commands)

-- The complete pages are the first of these, and the unfinished one begins the next.
abbrev pub HoldsFirst : FontSet → FontSet → Grid → List Definition → List Page → List Found → Option Found → Type 0
HoldsFirst set other g ds ps [] o = IsUnfinished set other g ds ps o
HoldsFirst set other g ds [] (q ∷ qs) o = ⊥
HoldsFirst set other g ds (p ∷ ps) (q ∷ qs) o = (q.counts ≡ p.counts) × HasUnits other (units_of set p.marks) (page_marks g other ds q.commands) × HoldsFirst set other g ds ps qs o

-- Wherever a copy is cut, the whole commands at its front, with the fonts that they define before the first bop, give complete pages that
-- are the first ones of the copy, in counts and marks; and the marks of an unfinished page are a front of the next one's.
abbrev pub CutsHoldFirstPages : Type 0
CutsHoldFirstPages = (w : Work) (ps : List Page) → IsPutCopy w ps → AreOf w.set ps → (other : FontSet) (g : Grid) → Serves w.set other → (n : ℕ) (front rest : List ℕ) (read : List Placed)
    → take n (file w ps) ≡ front ++ rest → Lexes 0 front read → HoldsFirst w.set other g (fonts_before read) ps (find read None).complete (find read None).unfinished
