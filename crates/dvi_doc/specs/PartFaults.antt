-- What the parts of the reader find wrong, each in what it reads. No public clause cites this module.
use Rattle.std.specs.Prelude.{◌≡◌, ◌<◌, ◌≤◌, ◌-◌, ◌%◌, ℕ, ℤ, List, length, Option, Some, None}
use Rattle.std.specs.List.{All, Contains}
use Rattle.dvi_ops.specs.Command.{Definition, Preamble, Postamble}
use Rattle.dvi_ops.specs.Spelling.{byte_at}
use Rattle.dvi_doc.specs.Grammar.{IsNamed, IsSized, SameUnits}
use Rattle.dvi_doc.specs.Faults.{SomeFont}
use Rattle.dvi_doc.specs.declared.fault.DocFault.{DocFault}
use Rattle.dvi_doc.specs.declared.fault.DocFault.TheVariants as fault

-- what is wrong with one definition
abbrev pub DefinitionFault : Definition → DocFault → Type 0
DefinitionFault d (fault.BadName k) = (d.k ≡ k) × (IsNamed d → ⊥)
DefinitionFault d (fault.BadSize k) = (d.k ≡ k) × (IsSized d → ⊥)
DefinitionFault d _ = ⊥

-- what is wrong with one of the definitions
abbrev pub SomeFault : List Definition → DocFault → Type 0
SomeFault ds e = (d : Definition) × Contains ds d × DefinitionFault d e

-- All of the definitions are as they should be, or the fault is true of one.
abbrev pub AreJudged : List Definition → Option DocFault → Type 0
AreJudged ds None = All IsNamed ds × All IsSized ds
AreJudged ds (Some e) = SomeFault ds e

-- all bytes from this place on are 223, and the one before it isn't
abbrev pub FillsFrom : List ℕ → ℕ → Type 0
FillsFrom bytes at =
    (at ≤ length bytes) × ((place : ℕ) → at ≤ place → place < length bytes → byte_at bytes place ≡ 223)
    × (0 < at → byte_at bytes (at - 1) ≡ 223 → ⊥)

-- one of the definitions has no equal one among the fonts
abbrev pub Differs : List Definition → List Definition → DocFault → Type 0
Differs fonts ds (fault.FontDiffers k) = SomeFont ds k (λ d. Contains fonts d)
Differs fonts ds _ = ⊥

-- what is wrong with the numbers in post, where the file has so many pages
abbrev pub TailFault : Preamble → Postamble → ℕ → DocFault → Type 0
TailFault head tail pages (fault.PageCount found told) = (found ≡ pages % 65536) × (told ≡ tail.pages) × (found ≡ told → ⊥)
TailFault head tail pages fault.PostDiffers = SameUnits head tail → ⊥
TailFault head tail pages _ = ⊥

-- the pointer of the bop or post at this place isn't the place of the last bop, or -1
abbrev pub BackFault : ℕ → ℤ → ℤ → DocFault → Type 0
BackFault at back last (fault.BadBackPointer place) = (place ≡ at) × (back ≡ last → ⊥)
BackFault at back last _ = ⊥
