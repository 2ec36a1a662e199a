-- Why bytes are no TFM file. Of several causes the one that stands first in the file is named.
use Rattle.std.specs.Prelude.{ℕ, ◌+◌, ◌*◌, ◌<◌, ◌≤◌, ◌⊎◌, List, length}
use Rattle.tfm_widths.specs.Lengths.{lf, bc, ec, nw, AreLengths}
use Rattle.tfm_widths.specs.Widths.{IsIndexed, IsWidth, IsWhole, AreIndexed, AreWidths}
use Rattle.tfm_widths.specs.declared.fault.TfmFault.{TfmFault}
use Rattle.tfm_widths.specs.declared.fault.TfmFault.TheVariants as fault

-- what is true of the bytes where a fault is named; of want of memory nothing is said
abbrev pub FaultIn : List ℕ → TfmFault → Type 0
FaultIn bytes fault.Short = (length bytes < 24) ⊎ (AreLengths bytes × length bytes < 4 * lf bytes)
FaultIn bytes fault.BadLengths = (24 ≤ length bytes) × (AreLengths bytes → ⊥)
FaultIn bytes (fault.BadIndex code) =
    IsWhole bytes × bc bytes ≤ code × code ≤ ec bytes × AreIndexed bytes code × (IsIndexed bytes code → ⊥)
FaultIn bytes (fault.BadWidth i) = IsWhole bytes × AreIndexed bytes (ec bytes + 1) × i < nw bytes × AreWidths bytes i × (IsWidth bytes i → ⊥)
FaultIn bytes fault.OutOfMemory = Unit {0}

-- a fault other than want of memory
abbrev pub IsOfBytes : TfmFault → Type 0
IsOfBytes fault.OutOfMemory = ⊥
IsOfBytes _ = Unit {0}
