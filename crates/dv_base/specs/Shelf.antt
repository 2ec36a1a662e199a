-- What a shelf holds, and what a call of `get` says of it.
use Rattle.std.specs.Prelude.{◌≡◌, ℕ, ◌≤◌, ◌<◌, List, length, Option, Some, None}
use Rattle.dv_base.specs.Causes.{Rose}
use Rattle.dv_base.specs.declared.shelf.Got.{Got}
use Rattle.dv_base.specs.declared.shelf.Got.TheVariants as got

-- the bytes under a name, or nothing
abbrev pub Contents : Type 0
Contents = List ℕ → Option (List ℕ)

-- What a shelf tells: what it holds, where it tells that, and how often a call met a fault, a name that isn't there, and too many bytes.
pub record Told : Type 0 where
  pub held : Option Contents
  pub faults : ℕ
  pub absents : ℕ
  pub overs : ℕ

-- a fact on what is held, where that is told
abbrev pub WhereHeld : Option Contents → (Contents → Type 0) → Type 0
WhereHeld None fact = Unit {0}
WhereHeld (Some held) fact = fact held

-- there are bytes, and more than the limit
abbrev pub IsLong : ℕ → Option (List ℕ) → Type 0
IsLong limit None = ⊥
IsLong limit (Some bytes) = limit < length bytes

-- What an answer of `get` says. Where the contents are told, the first three exclude one another, so each of them comes exactly
-- where its fact holds and neither a fault nor want of memory came in between.
abbrev pub GetGives : List ℕ → ℕ → Got → Told → Told → Type 0
GetGives name limit (got.Bytes bytes) old new =
    (length bytes.items ≤ limit) × WhereHeld old.held (λ held. held name ≡ Some bytes.items)
GetGives name limit got.Absent old new = Rose old.absents new.absents × WhereHeld old.held (λ held. held name ≡ None)
GetGives name limit got.TooLong old new = Rose old.overs new.overs × WhereHeld old.held (λ held. IsLong limit (held name))
GetGives name limit got.Failed old new = Rose old.faults new.faults
GetGives name limit got.OutOfMemory old new = Unit {0}

-- the bytes, where the answer has some, are no more than the limit
abbrev pub IsWithin : ℕ → Got → Type 0
IsWithin limit (got.Bytes bytes) = length bytes.items ≤ limit
IsWithin limit got.Absent = Unit {0}
IsWithin limit got.TooLong = Unit {0}
IsWithin limit got.Failed = Unit {0}
IsWithin limit got.OutOfMemory = Unit {0}

-- no call changes what is held, and no count falls
pub record Keeps (old new : Told) : Type 0 where
  pub held_same : new.held ≡ old.held
  pub faults_later : old.faults ≤ new.faults
  pub absents_later : old.absents ≤ new.absents
  pub overs_later : old.overs ≤ new.overs

-- only the count of what the answer says has moved
abbrev pub CountsBy : Got → Told → Told → Type 0
CountsBy (got.Bytes bytes) old new = (new.faults ≡ old.faults) × (new.absents ≡ old.absents) × (new.overs ≡ old.overs)
CountsBy got.Absent old new = (new.faults ≡ old.faults) × (new.overs ≡ old.overs)
CountsBy got.TooLong old new = (new.faults ≡ old.faults) × (new.absents ≡ old.absents)
CountsBy got.Failed old new = (new.absents ≡ old.absents) × (new.overs ≡ old.overs)
CountsBy got.OutOfMemory old new = (new.faults ≡ old.faults) × (new.absents ≡ old.absents) × (new.overs ≡ old.overs)
