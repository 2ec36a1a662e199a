-- What is read first of a job: the file of its input, and the document in it. Each part is what the shelf holds, where it tells that.
use Rattle.std.specs.Prelude.{◌≡◌, ◌≢◌, ◌⊎◌, ℕ, ◌≤◌, List, length, Some, None}
use Rattle.dv_base.specs.Causes.{Rose}
use Rattle.dv_base.specs.FileName.{text_of}
use Rattle.dv_base.specs.Shelf.{IsLong, Told, WhereHeld}
use Rattle.dvi_doc.specs.Document.{Document}
use Rattle.dvi_doc.specs.Faults.{FaultIn}
use Rattle.dvi_doc.specs.Grammar.{IsDoc, NoDoc}
use Rattle.dvi_doc.specs.declared.fault.DocFault.{DocFault}
use Rattle.dvi_doc.specs.declared.fault.DocFault.TheVariants as kinds
use Rattle.dv_top.specs.declared.outcome.Outcome.{Outcome}
use Rattle.dv_top.specs.declared.outcome.Outcome.TheVariants as outcome

-- the most bytes of an input
abbrev pub most_input : ℕ
most_input = 67108864

-- The input: where the shelf tells what it holds, it holds these bytes under that name.
pub record Input (name : List ℕ) (told : Told) : Type 0 where
  pub bytes : List ℕ
  pub few : length bytes ≤ most_input
  pub held : WhereHeld told.held (λ held. held name ≡ Some bytes)

-- The document in it.
pub record Source (name : List ℕ) (told : Told) : Type 0 where
  pub input : Input name told
  pub doc : Document
  pub is : IsDoc input.bytes doc

-- why a file was not read
pub data Unread : Type 0 where
  Absent : Unread
  Long : Unread
  Failed : Unread

-- which outcome tells that a file of this name was not read
abbrev pub UnreadTells : List ℕ → Unread → Outcome → Type 0
UnreadTells name Unread.Absent (outcome.Missing n) = text_of n ≡ name
UnreadTells name Unread.Long (outcome.FileTooLong n) = text_of n ≡ name
UnreadTells name Unread.Failed (outcome.ReadFault n) = text_of n ≡ name
UnreadTells name _ _ = ⊥

-- Why a file of this name was not read, of at most so many bytes: the count rose, and where the shelf tells what it holds, it is so.
abbrev pub UnreadHolds : List ℕ → ℕ → Told → Told → Unread → Type 0
UnreadHolds name limit old new Unread.Absent = Rose old.absents new.absents × WhereHeld old.held (λ held. held name ≡ None)
UnreadHolds name limit old new Unread.Long = Rose old.overs new.overs × WhereHeld old.held (λ held. IsLong limit (held name))
UnreadHolds name limit old new Unread.Failed = Rose old.faults new.faults

-- A file by its name and its limit was not read: memory was refused, or the outcome tells why.
abbrev pub NotRead : List ℕ → ℕ → Told → Told → Outcome → Type 0
NotRead name limit old new o = (o ≡ outcome.OutOfMemory) ⊎ ((why : Unread) × UnreadTells name why o × UnreadHolds name limit old new why)

-- what a fault of a document says of its bytes
abbrev pub IsNoDocument : List ℕ → DocFault → Type 0
IsNoDocument bytes kind = NoDoc bytes × FaultIn bytes kind × (kind ≢ kinds.OutOfMemory)

-- Bytes that are no document.
abbrev pub NotDocument : List ℕ → Outcome → Type 0
NotDocument bytes o = (o ≡ outcome.OutOfMemory) ⊎ ((kind : DocFault) × (o ≡ outcome.BadDvi kind) × IsNoDocument bytes kind)
