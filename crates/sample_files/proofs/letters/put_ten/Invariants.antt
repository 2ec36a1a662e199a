use Rattle.std.proofs.Common.{◌≡◌, ◌++◌}
use Rattle.sample_files.specs.Letters.{after, codes}
use Rattle.sample_files.proofs.letters.put_ten.Given as goal

abbrev pub invariant-loop-drawn : goal.invariant-loop-drawn
invariant-loop-drawn l =
    record {
      bytes : l.bytes.items ≡ l.initial.bytes.items ++ codes l._drawn l.initial.state;
      state : l.state ≡ after l._drawn l.initial.state;
    }
