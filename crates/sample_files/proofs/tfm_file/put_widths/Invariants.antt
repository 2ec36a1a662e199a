use Rattle.std.proofs.Common.{◌≡◌, ◌++◌}
use Rattle.sample_files.specs.Widths.{widths}
use Rattle.sample_files.proofs.tfm_file.put_widths.Given as goal

abbrev pub invariant-loop-index : goal.invariant-loop-index
invariant-loop-index l = l.bytes.items ≡ l.initial.bytes.items ++ widths l.index
