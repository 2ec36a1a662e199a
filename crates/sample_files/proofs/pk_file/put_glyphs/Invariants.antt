use Rattle.std.proofs.Common.{◌≡◌, ◌++◌}
use Rattle.sample_files.specs.Bitmaps.{glyphs}
use Rattle.sample_files.proofs.pk_file.put_glyphs.Given as goal

abbrev pub invariant-loop-number : goal.invariant-loop-number
invariant-loop-number l = l.bytes.items ≡ l.initial.bytes.items ++ glyphs l.number
