-- What a shelf in memory holds.
use Rattle.std.specs.Prelude.{◌≡◌, ℕ, ◌+◌, ◌-◌, ◌^◌, min, ◌==◌, List, [], ◌∷◌, Some, None, if◌then◌else◌, nat_eq, Bool, true, false}
use Rattle.std.specs.String.{string_bytes}
use Rattle.std.specs.Cmp.Lexicographic.{pointwise}
use Rattle.dv_base.specs.Shelf.{Told, Contents}
use Rattle.std.specs.List.{list_any}
use Rattle.dv_base.specs.declared.shelf.Got.{Got}
use Rattle.dv_base.specs.declared.shelf.Got.TheVariants as got
use Rattle.dv_base.specs.declared.mem_shelf.File.{File}
use Rattle.dv_base.specs.declared.mem_shelf.MemShelf.{MemShelf}

-- the two names are the same
abbrev pub is_name : List ℕ → List ℕ → Bool
is_name a b = pointwise nat_eq a b

-- the bytes of the first file of the name
abbrev pub find_file : List File → Contents
find_file [] name = None
find_file (f ∷ fs) name = if is_name (string_bytes f.name) name then Some f.bytes.items else find_file fs name

-- all that a shelf in memory tells
abbrev pub told_of : MemShelf → Told
told_of s = record { held = Some (find_file s.files.items); faults = s.faults; absents = s.absents; overs = s.overs }

-- the bytes under a name
abbrev pub held_of : MemShelf → Contents
held_of s = find_file s.files.items

-- What a shelf has been told to do: how many calls of `get` it has answered, and the numbers of those that fail.
pub record Planned : Type 0 where
  pub calls : ℕ
  pub fails : List ℕ

abbrev pub planned_of : MemShelf → Planned
planned_of s = record { calls = s.calls; fails = s.fails.items }

-- under the name are now these bytes, and all other names are as they were
abbrev pub Puts : List ℕ → List ℕ → Contents → Contents → Type 0
Puts name bytes old new = (n : List ℕ) → new n ≡ (if is_name name n then Some bytes else old n)

-- the number of the next call
abbrev pub next_call : Planned → ℕ
next_call plan = min (plan.calls + 1) (2 ^ 64 - 1)

-- one call more was answered
abbrev pub Answers : Planned → Planned → Type 0
Answers old new = new ≡ record { calls = next_call old; fails = old.fails }

-- a fault comes with the answer Failed, and with no other
abbrev pub IsFault : Got → ℕ → ℕ → Type 0
IsFault (got.Bytes bytes) before now = now ≡ before
IsFault got.Absent before now = now ≡ before
IsFault got.TooLong before now = now ≡ before
IsFault got.OutOfMemory before now = now ≡ before
IsFault got.Failed before now = now ≡ min (before + 1) (2 ^ 64 - 1)

abbrev pub is_failed : Got → Bool
is_failed (got.Bytes bytes) = false
is_failed got.Absent = false
is_failed got.TooLong = false
is_failed got.OutOfMemory = false
is_failed got.Failed = true

-- the answer is Failed exactly where the number of this call is among those named
abbrev pub FailsAsPlanned : Planned → Got → Told → Told → Type 0
FailsAsPlanned plan answer old new =
    (is_failed answer ≡ list_any (λ n. n == next_call plan) plan.fails) × IsFault answer old.faults new.faults
