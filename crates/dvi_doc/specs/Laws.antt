-- What follows from the grammar for all bytes.
use Rattle.std.specs.Prelude.{◌≡◌, ℕ, List}
use Rattle.dvi_doc.specs.Document.{Document}
use Rattle.dvi_doc.specs.Grammar.{IsDoc}

-- Bytes are at most one document.
abbrev pub OneDocument : Type 0
OneDocument = (bytes : List ℕ) (c d : Document) → IsDoc bytes c → IsDoc bytes d → c ≡ d
