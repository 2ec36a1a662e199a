-- What the tray of real files tells: how many outputs were begun, the name of the last and the faults, and nothing of bytes and messages.
use Rattle.std.specs.Prelude.{ℕ, List, Option, None}
use Rattle.std.specs.Option.{option_map}
use Rattle.std.specs.String.{string_bytes}
use Rattle.dv_base.specs.Tray.{Seen}
use Rattle.dv_base.specs.declared.file_tray.FileTray.{FileTray}

abbrev pub counted : ℕ → Option (List ℕ) → ℕ → Seen
counted begun last faults = record { outputs = None; messages = None; begun = begun; last = last; faults = faults }

-- all that it tells
abbrev pub seen_of : {R File Dir : Type 0} → FileTray R File Dir → Seen
seen_of t = counted t.begun (option_map string_bytes t.last) t.faults
