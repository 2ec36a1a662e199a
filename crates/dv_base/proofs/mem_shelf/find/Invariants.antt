use Rattle.std.proofs.Common.{◌≡◌, drop}
use Rattle.dv_base.specs.MemShelf.{find_file}
use Rattle.dv_base.proofs.mem_shelf.find.Given as goal

abbrev pub invariant-loop-file : goal.invariant-loop-file
invariant-loop-file l = find_file l.files l.name ≡ find_file (drop l.file-index l.files) l.name
