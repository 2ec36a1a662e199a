use Rattle.std.proofs.Common.{◌+◌, ◌-◌, vec_len}
use Rattle.dv_base.proofs.file_shelf.read_up_to.Given as goal

abbrev pub decreases-loop-block : goal.decreases-loop-block
decreases-loop-block g l = l.limit-2 + 1 - vec_len l.bytes
