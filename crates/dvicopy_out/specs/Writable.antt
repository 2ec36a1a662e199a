-- What makes a copy one that can be spelled.
use Rattle.std.specs.Prelude.{◌≡◌, ◌<◌, ◌≤◌, ◌^◌, List, length}
use Rattle.std.specs.List.{All, AllByRecursion}
use Rattle.positions.specs.Mark.{Mark, IsModerate}
use Rattle.positions.specs.Mark.Mark.{OfGlyph, OfRule, OfSpecial}
use Rattle.dvi_ops.specs.Shortest.{IsWord}
use Rattle.font_set.specs.Key.{IsKey, Key}
use Rattle.font_set.specs.Fonts.{Entry}
use Rattle.dvicopy_out.specs.Copies.{Page, Work, file}
use Rattle.dvi_doc.specs.Document.{document_of}
use Rattle.dvi_doc.specs.Grammar.{IsDoc}
use Rattle.dvicopy_out.specs.AsDocument.{file_of}

-- The numbers of a mark are not too large, and the code of a character is a byte.
abbrev pub IsPut : Mark → Type 0
IsPut (OfGlyph g) = IsModerate (OfGlyph g) × (g.code < 256)
IsPut (OfRule r) = IsModerate (OfRule r)
IsPut (OfSpecial s) = IsModerate (OfSpecial s)

-- a page has ten counts, each of 32 bits
pub record IsPutPage (p : Page) : Type 0 where
  pub ten : length p.counts ≡ 10
  pub words : All IsWord p.counts
  pub marks : AllByRecursion IsPut p.marks

-- a font's key is as it should be, and its checksum has 32 bits
pub record IsPutKey (k : Key) : Type 0 where
  pub key : IsKey k
  pub checksum : k.checksum < 2 ^ 32

abbrev pub IsPutFont : Entry → Type 0
IsPutFont e = IsPutKey e.key

-- The numbers of the preamble and of the postamble have 32 bits, the comment fewer than 256 bytes; the fonts are at most 1,000; and the
-- copy has fewer than 2^31 bytes.
pub record IsPutCopy (w : Work) (ps : List Page) : Type 0 where
  pub num : IsWord w.head.num
  pub den : IsWord w.head.den
  pub mag : IsWord w.mag
  pub comment : length w.head.comment < 256
  pub tall : IsWord w.tail.tall
  pub wide : IsWord w.tail.wide
  pub few : length w.set.fonts ≤ 1000
  pub fonts : AllByRecursion IsPutFont w.set.fonts
  pub pages : AllByRecursion IsPutPage ps
  pub short : length (file w ps) < 2 ^ 31

-- Such a copy is a document: that of its preamble, its pages with their counts and commands, its definitions and its postamble.
abbrev pub CopyIsDocument : Type 0
CopyIsDocument = (w : Work) (ps : List Page) → IsPutCopy w ps → IsDoc (file w ps) (document_of (file_of w ps))
