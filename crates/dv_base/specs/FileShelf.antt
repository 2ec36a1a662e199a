-- What the shelf of real files tells: its counts, and nothing of what it holds.
use Rattle.std.specs.Prelude.{ℕ, None}
use Rattle.dv_base.specs.Shelf.{Told}
use Rattle.dv_base.specs.declared.file_shelf.FileShelf.{FileShelf}

abbrev pub counted : ℕ → ℕ → ℕ → Told
counted faults absents overs = record { held = None; faults = faults; absents = absents; overs = overs }

-- all that it tells
abbrev pub told_of : {R File Dir Reader : Type 0} → FileShelf R File Dir Reader → Told
told_of s = counted s.faults s.absents s.overs
