-- A copy as a document.
use Rattle.std.specs.Prelude.{◌+◌, ℕ, ℤ, pos, negsuc, List, [], ◌∷◌, ◌++◌, length}
use Rattle.std.specs.List.{AllByRecursion}
use Rattle.dvi_ops.specs.Command.{Command}
use Rattle.dvi_ops.specs.Command.Command.{Bop, Pre, Post}
use Rattle.dvi_ops.specs.Shortest.{HasRoom, shortest_whole}
use Rattle.dvi_doc.specs.Document.{Placed, PageOf, Item, File, document_of, placed}
use Rattle.dvi_doc.specs.Document.Item.{Filler, Paged}
use Rattle.dvi_doc.specs.Grammar.{IsDoc}
use Rattle.font_set.specs.Key.{IsKey}
use Rattle.font_set.specs.Fonts.{Entry, FontSet}
use Rattle.dvicopy_out.specs.Spelled.{spelled}
use Rattle.dvicopy_out.specs.Numbered.{definitions}
use Rattle.dvicopy_out.specs.Marked.{page_pen, marks_commands}
use Rattle.dvicopy_out.specs.Copies.{Page, Work, back_commands, file, front_commands, last_bop, page_commands, pages_bytes, postamble, preamble}

-- commands with their places, the first of which is at
abbrev pub placed_from : ℕ → List Command → List Placed
placed_from at [] = []
placed_from at (c ∷ cs) = placed at c ∷ placed_from (at + length (shortest_whole c)) cs

-- definitions between the preamble and the pages
abbrev pub fillers : ℕ → List Command → List Item
fillers at [] = []
fillers at (c ∷ cs) = Filler (placed at c) ∷ fillers (at + length (shortest_whole c)) cs

-- a page whose bop has the place at
abbrev pub page_at : FontSet → ℤ → ℕ → Page → PageOf
page_at set last at p =
    let first : ℕ = at + length (shortest_whole (Bop p.counts last)) in
    let marks : List Command = marks_commands set page_pen p.marks in
    record { at = at; first = first; eop = first + length (spelled marks); counts = p.counts; commands = placed_from first marks }

abbrev pub paged : FontSet → ℤ → ℕ → List Page → List Item
paged set last at [] = []
paged set last at (p ∷ ps) = Paged (page_at set last at p) ∷ paged set (pos at) (at + length (spelled (page_commands set last p))) ps

-- where the pages begin, and where the postamble does
abbrev pub pages_place : Work → ℕ
pages_place w = length (spelled (front_commands w))

abbrev pub post_place : Work → List Page → ℕ
post_place w ps = pages_place w + length (pages_bytes w.set (negsuc 0) (pages_place w) ps)

abbrev pub post_command : Work → List Page → Command
post_command w ps = Post (postamble w (last_bop w.set (negsuc 0) (pages_place w) ps) (length ps))

-- the file in its order
abbrev pub file_of : Work → List Page → File
file_of w ps =
    let behind : ℕ = post_place w ps + length (shortest_whole (post_command w ps)) in
    record {
      head = preamble w.head w.mag;
      items = fillers (0 + length (shortest_whole (Pre (preamble w.head w.mag)))) (definitions w.set) ++ paged w.set (negsuc 0) (pages_place w) ps;
      post = post_place w ps;
      tail = postamble w (last_bop w.set (negsuc 0) (pages_place w) ps) (length ps);
      behind = placed_from behind (definitions w.set);
      ends = behind + length (spelled (definitions w.set));
    }

-- the commands of pages, the first of which has the place at
abbrev pub pages_commands : FontSet → ℤ → ℕ → List Page → List Command
pages_commands set last at [] = []
pages_commands set last at (p ∷ ps) = page_commands set last p ++ pages_commands set (pos at) (at + length (spelled (page_commands set last p))) ps

-- all commands of the copy
abbrev pub copy_commands : Work → List Page → List Command
copy_commands w ps =
    front_commands w ++ (pages_commands w.set (negsuc 0) (pages_place w) ps ++ back_commands w (last_bop w.set (negsuc 0) (pages_place w) ps) (post_place w ps) (length ps))

-- Each command has room for its operands, and the keys of the fonts are as they should be.
pub record IsSpellable (w : Work) (ps : List Page) : Type 0 where
  pub room : AllByRecursion HasRoom (copy_commands w ps)
  pub keys : AllByRecursion (λ (e : Entry). IsKey e.key) w.set.fonts

-- A copy is a document: that of its preamble, its pages with their counts and commands, its definitions and its postamble.
abbrev pub SpellableIsDocument : Type 0
SpellableIsDocument = (w : Work) (ps : List Page) → IsSpellable w ps → IsDoc (file w ps) (document_of (file_of w ps))
