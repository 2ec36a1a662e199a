use Rattle.std.proofs.Common.{◌≡◌, ◌++◌, ◌*◌}
use Rattle.sample_files.specs.Letters.{after}
use Rattle.sample_files.specs.Pages.{rows}
use Rattle.sample_files.proofs.page.put_rows.Given as goal

abbrev pub invariant-loop-number : goal.invariant-loop-number
invariant-loop-number l =
    record {
      bytes : l.bytes.items ≡ l.initial.bytes.items ++ rows l.number l.initial.state;
      state : l.state ≡ after (l.number * 60) l.initial.state;
    }
