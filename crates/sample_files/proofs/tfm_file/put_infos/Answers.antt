use Rattle.sample_files.proofs.Counts.{begun, grown, infos_more, infos_none}
use Rattle.sample_files.proofs.tfm_file.put_infos.Goals as goal

pub loop-index-init : goal.loop-index-init
loop-index-init c = begun _ _ infos_none

pub loop-index-preserved : goal.loop-index-preserved
loop-index-preserved c =
    grown _ _ _ _ _ _ c.loop-index.invariant c.in_ok-extend_from_slice.ensures.items (infos_more c.loop-index.index)
