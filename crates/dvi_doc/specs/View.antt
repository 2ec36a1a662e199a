-- What contracts see of pages, fonts and documents of the code.
use Rattle.std.specs.Prelude.{◌≡◌, ℕ, ℤ, pos, List, map}
use Rattle.dv_base.specs.FileName.{text_of}
use Rattle.dvi_ops.specs.Command.{Definition, Preamble, Postamble}
use Rattle.dvi_doc.specs.Document.{PageOf, Document}
use Rattle.dvi_doc.specs.Grammar.{IsDoc}
use Rattle.dvi_doc.specs.Standing.{definition_at}
use Rattle.dvi_doc.specs.declared.page.Page.{Page}
use Rattle.dvi_doc.specs.declared.font.FontKey.{FontKey}
use Rattle.dvi_doc.specs.declared.font_def.FontDef.{FontDef}

-- a page by its places, without its commands
pub record Outline : Type 0 where
  pub at : ℕ
  pub first : ℕ
  pub eop : ℕ
  pub counts : List ℤ

abbrev pub outline : PageOf → Outline
outline p = record { at = p.at; first = p.first; eop = p.eop; counts = p.counts }

abbrev pub page_view : Page → Outline
page_view p = record { at = p.at; first = p.first; eop = p.eop; counts = p.counts }

-- the key has the definition's name and its three numbers
abbrev pub IsKeyOf : Definition → FontKey → Type 0
IsKeyOf d key = (text_of key.name ≡ d.name) × (key.checksum ≡ d.checksum) × (pos key.size ≡ d.size) × (pos key.design ≡ d.design)

-- a document that was read: its bytes, and what was found in them
pub record ReadDoc : Type 0 where
  pub bytes : List ℕ
  pub head : Preamble
  pub pages : List Outline
  pub tail : Postamble
  pub fonts : List Definition

-- what a font definition of the document says
abbrev pub says : ReadDoc → FontDef → Definition
says doc font = definition_at doc.bytes font.at

-- what was found is the document's
abbrev pub Shows : Document → ReadDoc → Type 0
Shows doc r = (r.head ≡ doc.head) × (r.pages ≡ map outline doc.pages) × (r.tail ≡ doc.tail) × (r.fonts ≡ doc.fonts)

-- the bytes are a document, and what was found is its
abbrev pub IsRead : ReadDoc → Type 0
IsRead r = (doc : Document) × IsDoc r.bytes doc × Shows doc r
