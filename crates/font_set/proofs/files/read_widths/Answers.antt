use Rattle.font_set.proofs.Sizes.{tfm_fine, byte_below}
use Rattle.font_set.proofs.files.read_widths.Goals as goal

pub returns-clause-fine : goal.returns-clause-fine
returns-clause-fine c = tfm_fine c.args.bytes.now c.in_ok-tfm.tfm (byte_below c.args.bytes.now c.type_inv.bytes) c.in_ok-tfm.ensures.ok
