use Rattle.std.proofs.Common.{◌≡◌, ◌++◌, List, ℕ, ap, ◌∙◌, append_assoc, refl}
use Rattle.sample_files.specs.Letters.{after, codes}
use Rattle.sample_files.specs.Commands.{right}
use Rattle.sample_files.specs.Pages.{words}
use Rattle.sample_files.proofs.Counts.{after_none, after_turn, begun, grown, words_more, words_none}
use Rattle.sample_files.proofs.page.put_words.Goals as goal

pub loop-word-init : goal.loop-word-init
loop-word-init c = record { bytes = begun _ _ (words_none _); state = let e = after_none c.args.state.now in cc }

pub loop-word-preserved : goal.loop-word-preserved
loop-word-preserved c =
    let step : c.extend_from_slice.new.self.items ≡ c.loop-word.bytes.items ++ (codes 10 c.loop-word.state ++ right 218453)
    = (c.in_ok-extend_from_slice.ensures.items ∙ ap (λ (bytes : List ℕ). bytes ++ right 218453) c.in_ok-put_ten.ensures.bytes) ∙ append_assoc c.loop-word.bytes.items (codes 10 c.loop-word.state) (right 218453) in
    record {
      bytes = grown _ (words c.loop-word._word c.args.state.now) (codes 10 c.loop-word.state ++ right 218453) _ _ _ c.loop-word.invariant.bytes step (let e = words_more c.loop-word._word c.args.state.now in cc);
      state =
          (c.in_ok-put_ten.ensures.state ∙ ap (λ (s : ℕ). after 10 s) c.loop-word.invariant.state)
          ∙ after_turn 10 c.loop-word._word c.args.state.now;
    }
