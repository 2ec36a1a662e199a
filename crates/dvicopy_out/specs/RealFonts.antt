-- The fonts that a copy defines.
use Rattle.std.specs.Prelude.{◌≡◌, ◌<◌, ℕ, true, List, length}
use Rattle.std.specs.List.{All}
use Rattle.dvi_ops.specs.Command.{Definition}
use Rattle.dvi_doc.specs.Document.{document_of}
use Rattle.font_set.specs.Fonts.{FontSet, key_at, state_at}
use Rattle.dvicopy_out.specs.AsDocument.{file_of}
use Rattle.dvicopy_out.specs.Copies.{Page, Work}
use Rattle.dvicopy_out.specs.Numbered.{definition, is_real, number_of}

-- the definition is of a font of the set that is real and loaded, by that font's number in the copy
abbrev pub IsReal : FontSet → Definition → Type 0
IsReal set d = (id : ℕ) × (id < length set.fonts) × (is_real (state_at set id) ≡ true) × (definition (number_of set id) (key_at set id) ≡ d)

-- A copy defines no virtual font.
abbrev pub CopyDefinesReal : Type 0
CopyDefinesReal = (w : Work) (ps : List Page) → All (IsReal w.set) (document_of (file_of w ps)).fonts
