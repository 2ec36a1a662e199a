use Rattle.std.proofs.Common.{◌≡◌, ◌++◌}
use Rattle.sample_files.specs.Widths.{infos}
use Rattle.sample_files.proofs.tfm_file.put_infos.Given as goal

abbrev pub invariant-loop-index : goal.invariant-loop-index
invariant-loop-index l = l.bytes.items ≡ l.initial.bytes.items ++ infos l.index
