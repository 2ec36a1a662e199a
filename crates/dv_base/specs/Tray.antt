-- What a tray has taken, and what the answers of its calls say of it.
use Rattle.std.specs.Prelude.{◌≡◌, ℕ, ◌+◌, ◌-◌, ◌^◌, ◌≤◌, min, List, [], ◌∷◌, ◌++◌, length, take, Option, Some, None}
use Rattle.dv_base.specs.declared.tray.Begun.{Begun}
use Rattle.dv_base.specs.declared.tray.Begun.TheVariants as begun
use Rattle.dv_base.specs.declared.tray.Put.{Put}
use Rattle.dv_base.specs.declared.tray.Put.TheVariants as put
use Rattle.dv_base.specs.Causes.{Rose}

-- one output: its name and its bytes
pub record Output : Type 0 where
  pub name : List ℕ
  pub bytes : List ℕ

-- What a tray tells: the outputs that were begun and the messages that were said, where it tells these; and always how many outputs
-- were begun, the name of the last one, and how often it failed.
pub record Seen : Type 0 where
  pub outputs : Option (List Output)
  pub messages : Option (List (List ℕ))
  pub begun : ℕ
  pub last : Option (List ℕ)
  pub faults : ℕ

-- Where the later value is told, the earlier one was, and they are in the relation.
abbrev pub WhereTold : {A : Type 0} → (A → A → Type 0) → Option A → Option A → Type 0
WhereTold R old None = Unit {0}
WhereTold R None (Some new) = ⊥
WhereTold R (Some old) (Some new) = R old new

-- the last output has these bytes more
abbrev pub append_last : List Output → List ℕ → List Output
append_last [] piece = []
append_last (o ∷ []) piece = record { name = o.name; bytes = o.bytes ++ piece } ∷ []
append_last (o ∷ p ∷ os) piece = o ∷ append_last (p ∷ os) piece

-- these outputs, and one more without bytes
abbrev pub Begins : List ℕ → List Output → List Output → Type 0
Begins name old new = new ≡ old ++ record { name = name; bytes = [] } ∷ []

abbrev pub Appends : List ℕ → List Output → List Output → Type 0
Appends piece old new = new ≡ append_last old piece

-- the text, or a front of it, was appended
abbrev pub AppendsFront : List ℕ → List Output → List Output → Type 0
AppendsFront text old new = (n : ℕ) × (n ≤ length text) × Appends (take n text) old new

-- What `begin` leaves, by its answer. No message changes.
abbrev pub BeginGives : List ℕ → Begun → Seen → Seen → Type 0
BeginGives name begun.Ready old new =
    WhereTold (Begins name) old.outputs new.outputs
    × (new.begun ≡ min (old.begun + 1) (2 ^ 64 - 1)) × (new.last ≡ Some name) × (new.faults ≡ old.faults)
BeginGives name begun.Failed old new =
    Rose old.faults new.faults × (new.outputs ≡ old.outputs) × (new.begun ≡ old.begun) × (new.last ≡ old.last)
BeginGives name begun.OutOfMemory old new =
    (new.outputs ≡ old.outputs) × (new.begun ≡ old.begun) × (new.last ≡ old.last) × (new.faults ≡ old.faults)

-- What `write` leaves, by its answer.
abbrev pub WriteGives : List ℕ → Put → Seen → Seen → Type 0
WriteGives piece (put.Took n) old new =
    (min 1 (length piece) ≤ n) × (n ≤ length piece) × WhereTold (Appends (take n piece)) old.outputs new.outputs × (new.faults ≡ old.faults)
WriteGives piece put.Failed old new = Rose old.faults new.faults × (new.outputs ≡ old.outputs)

-- what no `write` changes, nor any number of them
pub record KeepsNames (old new : Seen) : Type 0 where
  pub later : old.faults ≤ new.faults
  pub begun_same : new.begun ≡ old.begun
  pub last_same : new.last ≡ old.last
  pub messages_same : new.messages ≡ old.messages

-- these messages, and one more
abbrev pub AddsMessage : List ℕ → List (List ℕ) → List (List ℕ) → Type 0
AddsMessage text old new = new ≡ old ++ text ∷ []

-- what `say` leaves: one message more, and all else as it was
pub record Says (text : List ℕ) (old new : Seen) : Type 0 where
  pub messages_more : WhereTold (AddsMessage text) old.messages new.messages
  pub outputs_same : new.outputs ≡ old.outputs
  pub begun_same : new.begun ≡ old.begun
  pub last_same : new.last ≡ old.last
  pub faults_same : new.faults ≡ old.faults
