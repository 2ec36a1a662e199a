-- What a tray in memory has taken.
use Rattle.std.specs.Prelude.{◌≡◌, ℕ, ◌+◌, ◌-◌, ◌^◌, min, List, [], ◌∷◌, length, Option, Some, None, Bool, true, false, if◌then◌else◌, nat_lt, ◌==◌, ◌++◌}
use Rattle.std.specs.List.{list_any}
use Rattle.std.specs.String.{string_bytes}
use Rattle.std.specs.Option.{option_map}
use Rattle.dv_base.specs.Tray.{Seen, Output}
use Rattle.dv_base.specs.Messages.{texts_of, lines_of}
use Rattle.dv_base.specs.declared.tray.Begun.{Begun}
use Rattle.dv_base.specs.declared.tray.Begun.TheVariants as begun
use Rattle.dv_base.specs.declared.tray.Put.{Put}
use Rattle.dv_base.specs.declared.tray.Put.TheVariants as put
use Rattle.dv_base.specs.declared.mem_tray.MemTray.{MemTray}

-- the name of the output that was begun, if one was
abbrev pub name_of : MemTray → Option (List ℕ)
name_of t = option_map string_bytes t.name

-- the output that was begun, if one was
abbrev pub outputs_of : Option (List ℕ) → List ℕ → List Output
outputs_of None bytes = []
outputs_of (Some name) bytes = record { name = name; bytes = bytes } ∷ []

abbrev pub begun_of : Option (List ℕ) → ℕ
begun_of None = 0
begun_of (Some name) = 1

-- nothing, once a message was lost
abbrev pub messages_of : Bool → List (List ℕ) → Option (List (List ℕ))
messages_of true texts = None
messages_of false texts = Some texts

-- all that a tray in memory tells
abbrev pub seen_of : MemTray → Seen
seen_of t =
    record {
      outputs = Some (outputs_of (name_of t) t.bytes.items);
      messages = messages_of t.is_lost (texts_of t.lengths.items t.said.items);
      begun = begun_of (name_of t);
      last = name_of t;
      faults = t.faults;
    }

-- the bytes of the output that was begun
abbrev pub bytes_of : MemTray → List ℕ
bytes_of t = t.bytes.items

-- What a tray in memory was told to do: its room for an output and for messages, the most bytes of one write, how many writes
-- it has answered, and the numbers of those that fail.
pub record Planned : Type 0 where
  pub capacity : ℕ
  pub says : ℕ
  pub chunk : ℕ
  pub writes : ℕ
  pub fails : List ℕ

abbrev pub planned_of : MemTray → Planned
planned_of t =
    record { capacity = t.capacity; says = t.says; chunk = t.chunk; writes = t.writes; fails = t.fails.items }

-- the number of the next write
abbrev pub next_write : Planned → ℕ
next_write plan = min (plan.writes + 1) (2 ^ 64 - 1)

-- What the next write of a piece of so many bytes answers: it fails where its number is named, and where what it would take has no room.
abbrev pub answer_of : Planned → ℕ → ℕ → Put
answer_of plan taken length =
    if list_any (λ n. n == next_write plan) plan.fails then put.Failed
    else (if nat_lt plan.capacity (taken + min length plan.chunk) then put.Failed else put.Took (min length plan.chunk))

-- the answer of a further `begin` is a fault, since there is room for one output
abbrev pub IsSecond : Option (List ℕ) → Begun → Type 0
IsSecond None answer = answer ≡ begun.Failed → ⊥
IsSecond (Some name) answer = answer ≡ begun.Failed

-- one write more was answered, and nothing else of the plan changed
abbrev pub AnswersWrite : Planned → Planned → Type 0
AnswersWrite old new = new ≡ record old { writes = next_write old }

-- a fault comes with the answer Failed, and with no other
abbrev pub IsBeginFault : Begun → ℕ → ℕ → Type 0
IsBeginFault begun.Ready before now = now ≡ before
IsBeginFault begun.OutOfMemory before now = now ≡ before
IsBeginFault begun.Failed before now = now ≡ min (before + 1) (2 ^ 64 - 1)

abbrev pub IsWriteFault : Put → ℕ → ℕ → Type 0
IsWriteFault (put.Took n) before now = now ≡ before
IsWriteFault put.Failed before now = now ≡ min (before + 1) (2 ^ 64 - 1)

-- What is told of the messages once one more was said: it is the last of them where there is room for it and its line end; else it is
-- lost, and from then on nothing is told of them.
abbrev pub messages_after : ℕ → List ℕ → Option (List (List ℕ)) → Option (List (List ℕ))
messages_after room text None = None
messages_after room text (Some texts) = if nat_lt room (length (lines_of texts) + length text + 1) then None else Some (texts ++ text ∷ [])
