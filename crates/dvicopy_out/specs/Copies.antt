-- The whole file of a copy.
use Rattle.std.specs.Prelude.{ℕ, ◌+◌, ◌-◌, ◌%◌, ℤ, pos, negsuc, List, [], ◌∷◌, ◌++◌, length, replicate}
use Rattle.positions.specs.Mark.{Mark}
use Rattle.dvi_ops.specs.Command.{Command, Preamble, Postamble}
use Rattle.dvi_ops.specs.Command.Command.{Bop, Eop, Pre, Post, PostPost}
use Rattle.font_set.specs.Fonts.{FontSet}
use Rattle.dvicopy_out.specs.Spelled.{spelled}
use Rattle.dvicopy_out.specs.Numbered.{definitions}
use Rattle.dvicopy_out.specs.Marked.{page_pen, marks_commands}

-- a page: its ten counts and its marks
pub record Page : Type 0 where
  pub counts : List ℤ
  pub marks : List Mark

-- What a copy is made of: the preamble and the postamble of the document, the magnification in force, and the fonts.
pub record Work : Type 0 where
  pub head : Preamble
  pub tail : Postamble
  pub mag : ℤ
  pub set : FontSet

-- the commands of a page; last is the place of the bop before its own, or -1
abbrev pub page_commands : FontSet → ℤ → Page → List Command
page_commands set last p = Bop p.counts last ∷ (marks_commands set page_pen p.marks ++ Eop ∷ [])

-- how many bytes a page has: 45 of its bop, one of its eop, and those of its marks
abbrev pub page_length : FontSet → Page → ℕ
page_length set p = 46 + length (spelled (marks_commands set page_pen p.marks))

abbrev pub pages_length : FontSet → List Page → ℕ
pages_length set [] = 0
pages_length set (p ∷ ps) = page_length set p + pages_length set ps

-- pages, one after another; the first has the place at
abbrev pub pages_bytes : FontSet → ℤ → ℕ → List Page → List ℕ
pages_bytes set last at [] = []
pages_bytes set last at (p ∷ ps) =
    spelled (page_commands set last p) ++ pages_bytes set (pos at) (at + length (spelled (page_commands set last p))) ps

-- the place of the last bop, or that of the one before the pages
abbrev pub last_bop : FontSet → ℤ → ℕ → List Page → ℤ
last_bop set last at [] = last
last_bop set last at (p ∷ ps) = last_bop set (pos at) (at + length (spelled (page_commands set last p))) ps

-- the preamble of the document, with another magnification
abbrev pub preamble : Preamble → ℤ → Preamble
preamble head mag = record { id = 2; num = head.num; den = head.den; mag = mag; comment = head.comment }

-- what stands before the pages
abbrev pub front_commands : Work → List Command
front_commands w = Pre (preamble w.head w.mag) ∷ definitions w.set

abbrev pub postamble : Work → ℤ → ℕ → Postamble
postamble w last pages =
    record {
      back = last;
      num = w.head.num;
      den = w.head.den;
      mag = w.mag;
      tall = w.tail.tall;
      wide = w.tail.wide;
      depth = 0;
      pages = pages % 65536;
    }

-- what stands behind them, the postamble at the place at
abbrev pub back_commands : Work → ℤ → ℕ → ℕ → List Command
back_commands w last at pages = Post (postamble w last pages) ∷ (definitions w.set ++ PostPost at 2 ∷ [])

-- four bytes 223 behind n bytes, and as many more as make the length a multiple of four
abbrev pub filling : ℕ → List ℕ
filling n = replicate (7 - (n + 3) % 4) 223

-- the front, the pages, and the back
abbrev pub body : Work → List Page → List ℕ
body w ps =
    let front : List ℕ = spelled (front_commands w) in
    let pages : List ℕ = pages_bytes w.set (negsuc 0) (length front) ps in
    front ++ pages ++ spelled (back_commands w (last_bop w.set (negsuc 0) (length front) ps) (length front + length pages) (length ps))

-- the file of a copy with these pages
abbrev pub file : Work → List Page → List ℕ
file w ps = body w ps ++ filling (length (body w ps))
