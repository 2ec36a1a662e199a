-- When bytes are a document (DVI format, the order of commands in a file).
use Rattle.std.specs.Prelude.{◌≡◌, ◌≤◌, ◌%◌, ◌^◌, ℕ, ℤ, pos, negsuc, ◌≤ℤ◌, ◌<ℤ◌, List, [], ◌∷◌, ◌++◌, length, map}
use Rattle.std.specs.List.{All, Contains}
use Rattle.dv_base.specs.FontName.{IsFontName}
use Rattle.dvi_ops.specs.Command.{Command, Definition, Preamble, Postamble}
use Rattle.dvi_ops.specs.Command.Command.{Bop, Eop, Pre, Post, PostPost, Nop, FntDef}
pub use Rattle.dvi_ops.specs.Placed.{Placed, Lexes}
use Rattle.dvi_ops.specs.Numbered.{Has, HasTwice}
use Rattle.dvi_doc.specs.Document.{Item, File, Document, commands_of, last_bop, document_of}
use Rattle.dvi_doc.specs.Document.Item.{Filler, Paged}

-- what may stand between pages, and between post and post_post
abbrev pub IsFiller : Command → Type 0
IsFiller Nop = Unit {0}
IsFiller (FntDef d) = Unit {0}
IsFiller _ = ⊥

-- what may stand inside a page
abbrev pub IsInner : Command → Type 0
IsInner (Bop counts back) = ⊥
IsInner Eop = ⊥
IsInner (Pre head) = ⊥
IsInner (Post tail) = ⊥
IsInner (PostPost back id) = ⊥
IsInner _ = Unit {0}

abbrev pub AllFillers : List Placed → Type 0
AllFillers [] = Unit {0}
AllFillers (c ∷ cs) = IsFiller c.command × AllFillers cs

abbrev pub AllInner : List Placed → Type 0
AllInner [] = Unit {0}
AllInner (c ∷ cs) = IsInner c.command × AllInner cs

-- the place of the first command, or where the commands end
abbrev pub first_place : List Placed → ℕ → ℕ
first_place [] end = end
first_place (c ∷ cs) end = c.place

-- single commands are fillers, and a page holds what may stand inside a page
abbrev pub AllItems : List Item → Type 0
AllItems [] = Unit {0}
AllItems (Filler c ∷ is) = IsFiller c.command × AllItems is
AllItems (Paged p ∷ is) = AllInner p.commands × (p.first ≡ first_place p.commands p.eop) × AllItems is

-- the byte that fills a file up
abbrev pub IsFill : ℕ → Type 0
IsFill byte = byte ≡ 223

-- The bytes are those of this file: its commands, one after another from place 0, and four or more bytes 223. The version is 2, and
-- post names the last bop, or -1 where there is no page.
abbrev pub IsFile : List ℕ → File → Type 0
IsFile bytes f =
    (f.head.id ≡ 2) × AllItems f.items × AllFillers f.behind × (f.tail.back ≡ last_bop (negsuc 0) f.items)
    × (whole : List ℕ) × (filling : List ℕ) × (bytes ≡ whole ++ filling) × (4 ≤ length filling) × All IsFill filling × Lexes 0 whole (commands_of f)

-- ---- what a document's parts owe one another

-- a size, or a design size: 1 to 2^27 - 1 units
abbrev pub IsSize : ℤ → Type 0
IsSize size = (pos 1 ≤ℤ size) × (size <ℤ pos (2 ^ 27))

-- the name, its area included, is one that a font may have; and so are the sizes
abbrev pub IsNamed : Definition → Type 0
IsNamed d = IsFontName d.name

abbrev pub IsSized : Definition → Type 0
IsSized d = IsSize d.size × IsSize d.design

abbrev pub number_of : Definition → ℤ
number_of d = d.k

-- the numbers of definitions, in their order
abbrev pub numbers_of : List Definition → List ℤ
numbers_of ds = map number_of ds

-- one of the definitions has this number
abbrev pub Defines : List Definition → ℤ → Type 0
Defines ds k = Has (numbers_of ds) k

-- two of the definitions have this number
abbrev pub DefinesTwice : List Definition → ℤ → Type 0
DefinesTwice ds k = HasTwice (numbers_of ds) k

-- The postamble's definitions: each number once, and names and sizes as they have to be.
abbrev pub AreFonts : List Definition → Type 0
AreFonts ds =
    ((k : ℤ) → DefinesTwice ds k → ⊥) × All IsNamed ds × All IsSized ds

-- each of the definitions stands among the fonts, equal in all fields
abbrev pub AllAmong : List Definition → List Definition → Type 0
AllAmong fonts ds = All (λ d. Contains fonts d) ds

-- post tells the three numbers of pre again
abbrev pub SameUnits : Preamble → Postamble → Type 0
SameUnits head tail = (tail.num ≡ head.num) × (tail.den ≡ head.den) × (tail.mag ≡ head.mag)

abbrev pub Agrees : Document → Type 0
Agrees doc =
    AreFonts doc.fonts × AllAmong doc.fonts doc.before × (length doc.pages % 65536 ≡ doc.tail.pages) × SameUnits doc.head doc.tail

-- The bytes are this document.
abbrev pub IsDoc : List ℕ → Document → Type 0
IsDoc bytes doc = (f : File) × IsFile bytes f × (document_of f ≡ doc) × Agrees doc

-- The bytes are no document.
abbrev pub NoDoc : List ℕ → Type 0
NoDoc bytes = (doc : Document) → IsDoc bytes doc → ⊥
