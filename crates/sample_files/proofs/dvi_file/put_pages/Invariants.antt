use Rattle.std.proofs.Common.{◌≡◌, ◌++◌, ◌*◌}
use Rattle.sample_files.specs.Letters.{after}
use Rattle.sample_files.specs.Document.{first_pages}
use Rattle.sample_files.proofs.dvi_file.put_pages.Given as goal

abbrev pub invariant-loop-before : goal.invariant-loop-before
invariant-loop-before l =
    record {
      bytes : l.bytes.items ≡ l.initial.bytes.items ++ first_pages l.before;
      state : l.state ≡ after (l.before * 2400) 1;
    }
