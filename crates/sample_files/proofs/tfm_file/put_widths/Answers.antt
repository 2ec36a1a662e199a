use Rattle.sample_files.specs.Widths.{widths}
use Rattle.sample_files.proofs.Counts.{begun, grown, widths_more, widths_none}
use Rattle.sample_files.proofs.tfm_file.put_widths.Goals as goal

pub loop-index-init : goal.loop-index-init
loop-index-init c = begun _ _ widths_none

pub loop-index-preserved : goal.loop-index-preserved
loop-index-preserved c =
    grown _ (widths c.loop-index.index) (c.to_be_bytes.result) _ _ _ c.loop-index.invariant c.in_ok-extend_from_slice.ensures.items
    (let e = widths_more c.loop-index.index in cc)
