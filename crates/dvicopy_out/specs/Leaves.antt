-- What a copy leaves of a tray.
use Rattle.std.specs.Prelude.{◌≡◌, ◌<◌, ◌≤◌, ◌+◌, ◌-◌, ◌^◌, ◌⊎◌, ℕ, List, [], ◌∷◌, ◌++◌, length, take, min, Some}
use Rattle.dv_base.specs.Causes.{Rose}
use Rattle.dv_base.specs.Tray.{Output, Seen, WhereTold}
use Rattle.dvi_doc.specs.View.{ReadDoc}
use Rattle.font_set.specs.Fonts.{FontSet}
use Rattle.vf_expand.specs.Grid.{Grid}
use Rattle.dvicopy_out.specs.Copies.{Work, file}
use Rattle.dvicopy_out.specs.Pages.{copy_pages, IsWalkCause}
use Rattle.dvicopy_out.specs.declared.fault.CopyFault.{CopyFault}
use Rattle.dvicopy_out.specs.declared.fault.CopyFault.TheVariants as fault
use Rattle.std.specs.Prelude.{ℤ}

-- one output more, of this name and with these bytes
abbrev pub OneMore : List ℕ → List ℕ → List Output → List Output → Type 0
OneMore name bytes old new = new ≡ old ++ record { name = name; bytes = bytes } ∷ []

-- one output more, with a front of these bytes
abbrev pub OneCut : List ℕ → List ℕ → List Output → List Output → Type 0
OneCut name bytes old new = (n : ℕ) × (n ≤ length bytes) × OneMore name (take n bytes) old new

-- an output of this name was begun, and no message said
pub record Began (name : List ℕ) (old new : Seen) : Type 0 where
  pub begun : new.begun ≡ min (old.begun + 1) (2 ^ 64 - 1)
  pub last : new.last ≡ Some name
  pub messages : new.messages ≡ old.messages

-- no output was begun, and no message said
pub record Untouched (old new : Seen) : Type 0 where
  pub outputs : new.outputs ≡ old.outputs
  pub begun : new.begun ≡ old.begun
  pub last : new.last ≡ old.last
  pub messages : new.messages ≡ old.messages

-- the copy of these pages of a document with these fonts
abbrev pub work_of : ReadDoc → FontSet → ℤ → Work
work_of r set mag = record { head = r.head; tail = r.tail; mag = mag; set = set }

abbrev pub copy_of : Grid → FontSet → ReadDoc → List ℕ → ℤ → List ℕ
copy_of g set r ks mag = file (work_of r set mag) (copy_pages g set r ks)

-- the whole copy was written, as an output of this name
pub record Copied (name bytes : List ℕ) (old new : Seen) : Type 0 where
  pub began : Began name old new
  pub whole : WhereTold (OneMore name bytes) old.outputs new.outputs

-- a front of the copy was written
pub record CopiedFront (name bytes : List ℕ) (old new : Seen) : Type 0 where
  pub began : Began name old new
  pub front : WhereTold (OneCut name bytes) old.outputs new.outputs

-- Why a copy that was measured isn't written, and what is left. bytes is the copy.
abbrev pub WriteFails : List ℕ → List ℕ → Seen → Seen → CopyFault → Type 0
WriteFails name bytes old new (fault.Walk e) = ⊥
WriteFails name bytes old new fault.CopyTooLong = (2 ^ 31 - 1 < length bytes) × Untouched old new
WriteFails name bytes old new fault.WriteFault = Rose old.faults new.faults × (Untouched old new ⊎ CopiedFront name bytes old new)
WriteFails name bytes old new fault.OutOfMemory = Untouched old new

-- Why a document isn't copied, and what is left. bytes is its copy.
abbrev pub CopyFails : Grid → FontSet → ReadDoc → List ℕ → List ℕ → List ℕ → Seen → Seen → CopyFault → Type 0
CopyFails g set r ks name bytes old new (fault.Walk e) = IsWalkCause g set r ks e × Untouched old new
CopyFails g set r ks name bytes old new fault.CopyTooLong = (2 ^ 31 - 1 < length bytes) × Untouched old new
CopyFails g set r ks name bytes old new fault.WriteFault = Rose old.faults new.faults × (Untouched old new ⊎ CopiedFront name bytes old new)
CopyFails g set r ks name bytes old new fault.OutOfMemory = Untouched old new
