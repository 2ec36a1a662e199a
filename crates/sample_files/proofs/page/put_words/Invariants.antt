use Rattle.std.proofs.Common.{◌≡◌, ◌++◌, ◌*◌}
use Rattle.sample_files.specs.Letters.{after}
use Rattle.sample_files.specs.Pages.{words}
use Rattle.sample_files.proofs.page.put_words.Given as goal

abbrev pub invariant-loop-word : goal.invariant-loop-word
invariant-loop-word l =
    record {
      bytes : l.bytes.items ≡ l.initial.bytes.items ++ words l._word l.initial.state;
      state : l.state ≡ after (l._word * 10) l.initial.state;
    }
