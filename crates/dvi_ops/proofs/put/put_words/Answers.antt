use Rattle.std.proofs.Common.{◌≡◌, ◌+◌, ◌∷◌, ◌++◌, ◌∙◌, suc, ℕ, pos, List, get_or, FitsSigned, w32, to_z, of_z, sym, ap, arith, rules, take}
use Rattle.std.proofs.lemmas.Int.{to_z-of_z}
use Rattle.std.proofs.lemmas.List.{get_or_default}
use Rattle.byteorder.specs.Endian.{big_bytes}
use Rattle.dvi_ops.specs.Shortest.{words_of, bytes_of}
use Rattle.dvi_ops.proofs.Operands.{words_more, all_more}
use Rattle.dvi_ops.proofs.put.put_words.Goals as goal

pub loop-word-preserved : goal.loop-word-preserved
loop-word-preserved c =
    let ws = c.args.words.now in
    let i = c.loop-word.word-index in
    let z = get_or ws i (pos 0) in
    let fits : FitsSigned w32 z = search rules in
    let one : i + 1 ≡ suc i = omega arith in
    let bytes : big_bytes 4 (of_z w32 (to_z w32 (of_z w32 z))) ≡ bytes_of 4 z = ap (bytes_of 4) (to_z-of_z w32 z fits) in
    let more : words_of (take (i + 1) ws) ≡ words_of (take i ws) ++ bytes_of 4 z =
    ap (λ (n : ℕ). words_of (take n ws)) one ∙ words_more ws i z c.loop-word-test.true (get_or_default ws i (pos 0) z c.loop-word-test.true) in
    let front = c.args.op ∷ words_of (take i ws) in
    record {
      text = c.put_word.ensures.value ∙ ap (λ (xs : List ℕ). xs ++ big_bytes 4 (of_z w32 (to_z w32 (of_z w32 z)))) c.loop-word.invariant.text
          ∙ ap (λ (xs : List ℕ). front ++ xs) bytes ∙ ap (λ (xs : List ℕ). c.args.op ∷ xs) (sym more);
      long = omega (arith, c.put_word.ensures.len, c.loop-word.invariant.long);
      words = all_more ws i (i + 1) one c.loop-word-test.true c.loop-word.invariant.words fits;
    }
