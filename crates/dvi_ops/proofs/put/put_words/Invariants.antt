use Rattle.std.proofs.Common.{◌≡◌, ◌+◌, ◌*◌, ◌∷◌, length, take}
use Rattle.std.specs.List.{All}
use Rattle.dvi_ops.specs.Shortest.{words_of, IsWord}
use Rattle.dvi_ops.proofs.put.put_words.Given as goal

abbrev pub invariant-loop-word : goal.invariant-loop-word
invariant-loop-word l = record {
  text : l.out.items ≡ l.op ∷ words_of (take l.word-index l.words);
  long : length l.out.items ≡ 1 + 4 * l.word-index;
  words : All IsWord (take l.word-index l.words);
}
