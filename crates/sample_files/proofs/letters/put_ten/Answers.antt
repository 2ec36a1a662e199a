use Rattle.std.proofs.Common.{[], ◌∷◌}
use Rattle.sample_files.specs.Letters.{codes}
use Rattle.sample_files.proofs.Counts.{after_more, after_none, begun, codes_more, codes_none, grown}
use Rattle.sample_files.proofs.letters.put_ten.Goals as goal

pub loop-drawn-init : goal.loop-drawn-init
loop-drawn-init c = record { bytes = begun _ _ (codes_none _); state = let e = after_none c.args.state.now in cc }

pub loop-drawn-preserved : goal.loop-drawn-preserved
loop-drawn-preserved c =
    let state = after_more c.loop-drawn._drawn c.args.state.now in
    record {
      bytes =
          grown _ (codes c.loop-drawn._drawn c.args.state.now) (c.code.result ∷ []) _ _ _ c.loop-drawn.invariant.bytes
          c.in_ok-push.ensures.items
          (let e = codes_more c.loop-drawn._drawn c.args.state.now in cc);
      state = cc;
    }
