-- What a DVI document is made of (DVI format, the order of commands in a file).
use Rattle.std.specs.Prelude.{ℕ, ℤ, pos, negsuc, List, [], ◌∷◌, ◌++◌}
use Rattle.dvi_ops.specs.Command.{Command, Definition, Preamble, Postamble}
pub use Rattle.dvi_ops.specs.Placed.{Placed}
use Rattle.dvi_ops.specs.Command.Command.{Bop, Eop, Pre, Post, PostPost, FntDef}

-- A page: the places of its bop, of the command behind it and of its eop, the ten counts, and the commands between bop and eop.
pub record PageOf : Type 0 where
  pub at : ℕ
  pub first : ℕ
  pub eop : ℕ
  pub counts : List ℤ
  pub commands : List Placed

-- What stands between pre and post: pages, and single commands between them.
pub data Item : Type 0 where
  Filler : (c : Placed) → Item
  Paged : (page : PageOf) → Item

-- A file in its order: pre, pages with fillers, post at its place, what stands behind post, and post_post at the place `ends`.
pub record File : Type 0 where
  pub head : Preamble
  pub items : List Item
  pub post : ℕ
  pub tail : Postamble
  pub behind : List Placed
  pub ends : ℕ

abbrev pub placed : ℕ → Command → Placed
placed at c = record { place = at; command = c }

-- The commands of the items, one after another. Each bop names the bop before it; last is the place of the one before all of them,
-- or -1.
abbrev pub between : ℤ → List Item → List Placed
between last [] = []
between last (Filler c ∷ is) = c ∷ between last is
between last (Paged p ∷ is) = placed p.at (Bop p.counts last) ∷ (p.commands ++ placed p.eop Eop ∷ between (pos p.at) is)

-- the place of the last bop of the items, or that of the one before them
abbrev pub last_bop : ℤ → List Item → ℤ
last_bop last [] = last
last_bop last (Filler c ∷ is) = last_bop last is
last_bop last (Paged p ∷ is) = last_bop (pos p.at) is

-- All commands of a file. The first page has -1 for the bop before it, and post_post names the place of post and the version, 2.
abbrev pub commands_of : File → List Placed
commands_of f =
    placed 0 (Pre f.head) ∷ (between (negsuc 0) f.items ++ placed f.post (Post f.tail) ∷ (f.behind ++ placed f.ends (PostPost f.post 2) ∷ []))

abbrev pub pages_of : List Item → List PageOf
pages_of [] = []
pages_of (Filler c ∷ is) = pages_of is
pages_of (Paged p ∷ is) = p ∷ pages_of is

-- a command's definition, if it is one, before others
abbrev pub put_definition : Command → List Definition → List Definition
put_definition (FntDef d) ds = d ∷ ds
put_definition _ ds = ds

-- the font definitions among commands, in their order
abbrev pub definitions_of : List Placed → List Definition
definitions_of [] = []
definitions_of (c ∷ cs) = put_definition c.command (definitions_of cs)

-- the font definitions between and inside pages
abbrev pub definitions_before : List Item → List Definition
definitions_before [] = []
definitions_before (Filler c ∷ is) = put_definition c.command (definitions_before is)
definitions_before (Paged p ∷ is) = definitions_of p.commands ++ definitions_before is

-- What a document says: its preamble, its pages in file order, the font definitions before its postamble and those in it, and the
-- postamble.
pub record Document : Type 0 where
  pub head : Preamble
  pub pages : List PageOf
  pub before : List Definition
  pub tail : Postamble
  pub fonts : List Definition

abbrev pub document_of : File → Document
document_of f = record { head = f.head; pages = pages_of f.items; before = definitions_before f.items; tail = f.tail; fonts = definitions_of f.behind }
