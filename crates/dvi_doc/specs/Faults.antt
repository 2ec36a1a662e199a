-- What each fault of a document says of the bytes. Where a fault's sentence is true, the bytes are no document.
use Rattle.std.specs.Prelude.{◌≡◌, ◌<◌, ◌≤◌, ◌+◌, ◌%◌, ◌⊎◌, ℕ, ℤ, List, length}
use Rattle.std.specs.List.{Contains}
use Rattle.dvi_ops.specs.Command.{Command, Definition, Preamble}
use Rattle.dvi_ops.specs.Command.Command.{Pre, PostPost}
use Rattle.dvi_ops.specs.Spelling.{byte_at}
use Rattle.dvi_ops.specs.View.{FaultAt, NoSpelling}
use Rattle.dvi_ops.specs.declared.cmd.OpFault.TheVariants as op
use Rattle.dvi_doc.specs.Document.{Document, File, document_of}
use Rattle.dvi_doc.specs.Grammar.{IsFile, IsNamed, IsSized, DefinesTwice, SameUnits}
use Rattle.dvi_doc.specs.Order.{Reading, Reaches, Meets, SpelledTo, MayStand, NamesLast}
use Rattle.dvi_doc.specs.Order.Part.{Behind}
use Rattle.dvi_doc.specs.declared.fault.DocFault.{DocFault}
use Rattle.dvi_doc.specs.declared.fault.DocFault.TheVariants as fault

-- The bytes end with four or more bytes 223, and 249 stands at this place, six places before the first of these.
abbrev pub TrailerAt : List ℕ → ℕ → Type 0
TrailerAt bytes at =
    (at + 10 ≤ length bytes) × (byte_at bytes at ≡ 249) × (byte_at bytes (at + 5) ≡ 223 → ⊥)
    × ((place : ℕ) → at + 6 ≤ place → place < length bytes → byte_at bytes place ≡ 223)

-- The id byte of pre, or of post_post, at this place isn't 2.
abbrev pub IsBadId : List ℕ → ℕ → Type 0
IsBadId bytes at =
    ((at ≡ 1) × (head : Preamble) × (end : ℕ) × SpelledTo bytes 0 end (Pre head) × (head.id ≡ 2 → ⊥))
    ⊎ ((place : ℕ) × (at ≡ place + 5) × TrailerAt bytes place × (byte_at bytes at ≡ 2 → ⊥))

-- A command stands there where it may not; or a post_post, and the trailer's stands further on; or the trailer's 249 at this place
-- is one that reading from the start never comes to, since it lies inside another command.
abbrev pub IsBadOrder : List ℕ → ℕ → Type 0
IsBadOrder bytes at =
    ((r : Reading) × (c : Command) × Meets bytes at r c × (MayStand r.part c → ⊥))
    ⊎ (((r : Reading) × (back : ℕ) × (id : ℕ) × Meets bytes at r (PostPost back id) × (ends : ℕ) × TrailerAt bytes ends × (at < ends))
    ⊎ (TrailerAt bytes at × (place : ℕ) × (r : Reading) × (c : Command) × (end : ℕ) × Reaches bytes place r × SpelledTo bytes place end c × (place < at) × (at < end)))

-- The bytes are a file's, and this is true of what it says.
abbrev pub InFile : List ℕ → (Document → Type 0) → Type 0
InFile bytes P = (f : File) × IsFile bytes f × P (document_of f)

-- one of the definitions has this number and isn't as it should be
abbrev pub SomeFont : List Definition → ℤ → (Definition → Type 0) → Type 0
SomeFont ds k P = (d : Definition) × Contains ds d × (d.k ≡ k) × (P d → ⊥)

-- what is wrong with the postamble's definitions
abbrev pub FontFault : List Definition → DocFault → Type 0
FontFault ds (fault.FontTwice k) = DefinesTwice ds k
FontFault ds (fault.BadName k) = SomeFont ds k IsNamed
FontFault ds (fault.BadSize k) = SomeFont ds k IsSized
FontFault ds fault.OutOfMemory = Unit {0}
FontFault ds _ = ⊥

abbrev pub FaultIn : List ℕ → DocFault → Type 0
FaultIn bytes fault.NoPreamble = (head : Preamble) (end : ℕ) → SpelledTo bytes 0 end (Pre head) → ⊥
FaultIn bytes (fault.BadId at) = IsBadId bytes at
FaultIn bytes fault.NoTrailer = (place : ℕ) → TrailerAt bytes place → ⊥
FaultIn bytes (fault.BadPostPointer at) =
    (r : Reading) × (back : ℕ) × (id : ℕ) × Meets bytes at r (PostPost back id) × (r.part ≡ Behind) × (back ≡ r.post → ⊥)
FaultIn bytes (fault.BadBackPointer at) = (r : Reading) × (c : Command) × Meets bytes at r c × MayStand r.part c × (NamesLast r.last c → ⊥)
FaultIn bytes (fault.BadOrder at) = IsBadOrder bytes at
FaultIn bytes (fault.Undefined at) = (r : Reading) × Reaches bytes at r × FaultAt bytes at (op.Undefined at) × NoSpelling bytes at
FaultIn bytes (fault.Short at) = (r : Reading) × Reaches bytes at r × FaultAt bytes at (op.Short at) × NoSpelling bytes at
FaultIn bytes (fault.FontTwice k) = InFile bytes (λ doc. FontFault doc.fonts (fault.FontTwice k))
FaultIn bytes (fault.FontDiffers k) = InFile bytes (λ doc. SomeFont doc.before k (λ d. Contains doc.fonts d))
FaultIn bytes (fault.BadName k) = InFile bytes (λ doc. FontFault doc.fonts (fault.BadName k))
FaultIn bytes (fault.BadSize k) = InFile bytes (λ doc. FontFault doc.fonts (fault.BadSize k))
FaultIn bytes (fault.PageCount found told) =
    InFile bytes (λ doc. (found ≡ length doc.pages % 65536) × (told ≡ doc.tail.pages) × (found ≡ told → ⊥))
FaultIn bytes fault.PostDiffers = InFile bytes (λ doc. SameUnits doc.head doc.tail → ⊥)
FaultIn bytes fault.OutOfMemory = Unit {0}

-- true of the bytes where the fault is any but want of memory
abbrev pub NoneBut : Type 0 → DocFault → Type 0
NoneBut P fault.OutOfMemory = Unit {0}
NoneBut P _ = P
