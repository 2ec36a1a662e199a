-- What a run leaves on its tray: one output or none, and lines that were said.
use Rattle.std.specs.Prelude.{◌≡◌, ℕ, ◌+◌, ◌-◌, ◌^◌, min, List, [], ◌∷◌, ◌++◌, Option, Some, None}
use Rattle.dv_base.specs.Tray.{Output, Seen, WhereTold}

-- one output more, with these bytes
abbrev pub AddsOutput : List ℕ → List ℕ → List Output → List Output → Type 0
AddsOutput name written old new = new ≡ old ++ record { name = name; bytes = written } ∷ []

-- Where bytes went out, one output was begun under this name, and they went to it; else none was begun.
abbrev pub LeavesOutput : List ℕ → Option (List ℕ) → Seen → Seen → Type 0
LeavesOutput name None old new = (new.outputs ≡ old.outputs) × (new.begun ≡ old.begun) × (new.last ≡ old.last)
LeavesOutput name (Some written) old new =
    WhereTold (AddsOutput name written) old.outputs new.outputs × (new.begun ≡ min (old.begun + 1) (2 ^ 64 - 1)) × (new.last ≡ Some name)

-- these messages, and these lines
abbrev pub AddsLines : List (List ℕ) → List (List ℕ) → List (List ℕ) → Type 0
AddsLines lines old new = new ≡ old ++ lines

-- Where messages are told, these lines were said, and no others.
abbrev pub LeavesLines : List (List ℕ) → Seen → Seen → Type 0
LeavesLines lines old new = WhereTold (AddsLines lines) old.messages new.messages

-- Nothing was begun, or what was written is a front.
abbrev pub WroteFront : List ℕ → (List ℕ → Type 0) → Option (List ℕ) → Type 0
WroteFront text Front None = Unit {0}
WroteFront text Front (Some written) = Front written
