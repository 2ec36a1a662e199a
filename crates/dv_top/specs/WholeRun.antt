-- What one run leaves: of the words, of the shelf, of the tray; and what is done for certain.
use Rattle.std.specs.Prelude.{◌≡◌, ℕ, ◌⊎◌, List}
use Rattle.dv_base.specs.Shelf.{Told}
use Rattle.dv_base.specs.Tray.{Seen}
use Rattle.dv_words.specs.Jobs.{Job}
use Rattle.dv_words.specs.Jobs.Job.{Copying, Listing, Printing, Sampling}
use Rattle.dv_words.specs.Language.{IsWrongAt}
use Rattle.dv_words.specs.Words.{Accepted, Asks}
use Rattle.dv_top.specs.Completeness.{PrintsAll}
use Rattle.dv_top.specs.Copied as copied
use Rattle.dv_top.specs.Copies.{CopiesAll}
use Rattle.dv_top.specs.Lines.{SaysLine}
use Rattle.dv_top.specs.Listed as listed
use Rattle.dv_top.specs.Lists.{ListsAll}
use Rattle.dv_top.specs.Message.{message_of}
use Rattle.dv_top.specs.Printed as printed
use Rattle.dv_top.specs.Sampled as sampled
use Rattle.dv_top.specs.declared.outcome.Outcome.{Outcome}
use Rattle.dv_top.specs.declared.outcome.Outcome.TheVariants as outcome

-- what a job of each tool leaves
abbrev pub JobLeaves : Job → Told → Told → Seen → Seen → Outcome → Type 0
JobLeaves (Printing job) told later old new o = printed.Leaves job told later old new o
JobLeaves (Listing job) told later old new o = listed.Leaves job told later old new o
JobLeaves (Copying job) told later old new o = copied.Leaves job told later old new o
JobLeaves (Sampling pages) told later old new o = (later ≡ told) × sampled.Leaves pages old new o

-- The words ask for nothing, or memory was refused as they were read; and nothing changes.
abbrev pub NoJob : List (List ℕ) → Outcome → Type 0
NoJob words o = (o ≡ outcome.OutOfMemory) ⊎ ((index : ℕ) × (o ≡ outcome.BadWords index) × IsWrongAt Accepted words index)

-- What words leave. Words that no accepted list has call for nothing; all others are a job.
abbrev pub WordsLeave : List (List ℕ) → Told → Told → Seen → Seen → Outcome → Type 0
WordsLeave words told later old new o =
    (NoJob words o × (later ≡ told) × (new ≡ old))
    ⊎ ((job : Job) × Asks words job × JobLeaves job told later old new o)

-- A run: what the words leave, and then the message of the outcome.
abbrev pub Runs : List (List ℕ) → Told → Told → Seen → Seen → Outcome → Type 0
Runs words told later old new o = (between : Seen) × WordsLeave words told later old between o × SaysLine (message_of o) between new

-- What can be printed, copied or listed is so, where neither the shelf nor the tray has a fault and memory is given.
abbrev pub IsComplete : List (List ℕ) → Told → Told → Seen → Seen → Outcome → Type 0
IsComplete words told later old new o = PrintsAll words told later old new o × CopiesAll words told later old new o × ListsAll words told later old new o
