use Rattle.std.proofs.Common.{◌≡◌, map, drop}
use Rattle.dv_base.specs.FileName.{text_of}
use Rattle.dv_top.specs.Noted.{names_noted}
use Rattle.dv_top.proofs.notes.note_names.Given as goal

abbrev pub invariant-loop-name : goal.invariant-loop-name
invariant-loop-name l = names_noted (map text_of l.names.items) (map text_of (drop l.name-index l.more)) ≡ names_noted (map text_of l.fn.names.items) (map text_of l.more)
