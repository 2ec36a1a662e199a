use Rattle.std.proofs.Common.{refl, ◌+◌, map, take, ◌∙◌}
use Rattle.ps_subset.specs.Blocks.{headers_lines}
use Rattle.ps_emit.specs.Shown.{out_of, holds_more}
use Rattle.ps_emit.specs.Written.{Cut, cut_writes, cut_longer, cut_later, wrote_more, wrote_nothing}
use Rattle.ps_emit.proofs.Lines.{blocks_more, blocks_split}
use Rattle.ps_emit.proofs.emitter.Emitter.blocks.Goals as goal

pub loop-header-init : goal.loop-header-init
loop-header-init g c = record {
  begun = c.requires;
  wrote = wrote_nothing _ c.args.self.now.fits;
  holds = record { loan_same = refl; fonts_same = refl; comments_same = refl; pass_same = refl };
  sheet = refl;
}

pub loop-header-preserved : goal.loop-header-preserved
loop-header-preserved g c = record {
  begun = rw (c.in_ok-block.ensures.writes.keeps.begun_same) c.loop-header.invariant.begun;
  wrote = rw (← (blocks_more (λ h. h.items) c.args.headers.now c.loop-header.header-index c.header-item.result c.loop-header-test.true c.header-item.is))
      (wrote_more _ _ _ _ _ c.loop-header.invariant.wrote (rw c.as_slice.ensures.value at c.in_ok-block.ensures.writes));
  holds = holds_more _ _ _ c.loop-header.invariant.holds c.in_ok-block.ensures.holds;
  sheet = c.in_ok-block.ensures.sheet ∙ c.loop-header.invariant.sheet;
}

pub returns-in_err-block-clause-writes : goal.returns-in_err-block-clause-writes
returns-in_err-block-clause-writes g c =
    let front : Cut (headers_lines (map (λ h. h.items) (take (c.loop-header.header-index + 1) c.args.headers.now))) (out_of c.args.self.now) (out_of c.block.new.self) =
    rw (← (blocks_more (λ h. h.items) c.args.headers.now c.loop-header.header-index c.header-item.result c.loop-header-test.true c.header-item.is))
    (cut_later _ _ _ _ _ c.loop-header.invariant.wrote (rw c.as_slice.ensures.value at c.in_err-block.ensures.writes)) in
    cut_writes _ _ _ _ c.from_residual.ensures.0
    (rw (← (blocks_split (λ h. h.items) c.args.headers.now (c.loop-header.header-index + 1))) (cut_longer _ _ _ _ front))
