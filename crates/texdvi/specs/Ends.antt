-- How the program ends.
use Rattle.std.specs.Prelude.{◌≡◌, ℕ, ◌⊎◌, List}
use Rattle.dv_base.specs.Causes.{Rose}
use Rattle.dv_base.specs.Shelf.{Told}
use Rattle.dv_base.specs.Tray.{Seen}
use Rattle.dv_top.specs.Message.{message_of}
use Rattle.dv_top.specs.Status.{status_of}
use Rattle.dv_top.specs.Lines.{SaysLine}
use Rattle.dv_top.specs.WholeRun.{Runs}
use Rattle.dv_top.specs.declared.outcome.Outcome.{Outcome}
use Rattle.dv_top.specs.declared.outcome.Outcome.TheVariants as outcome

-- What was gathered is handed on. Where all of it went out, the status is the outcome's; else a fault more is counted, the line of a
-- write fault is said, and the status is that of one.
abbrev pub HandsOn : Outcome → Seen → Seen → ℕ → Type 0
HandsOn o old new status =
    ((new ≡ old) × (status ≡ status_of o))
    ⊎ ((between : Seen) × Rose old.faults between.faults × SaysLine (message_of outcome.WriteFault) between new × (status ≡ status_of outcome.WriteFault))

-- One run of the words, and then what was gathered is handed on.
abbrev pub Ends : List (List ℕ) → Told → Told → Seen → Seen → ℕ → Type 0
Ends words told later old new status = (o : Outcome) × (between : Seen) × Runs words told later old between o × HandsOn o between new status
