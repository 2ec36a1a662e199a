use Rattle.std.proofs.Common.{◌^◌}
use Rattle.dv_base.proofs.Products.{by_bytes}
use Rattle.dv_base.proofs.fix_word.fraction.Goals as goal

pub returns-clause-value : goal.returns-clause-value
returns-clause-value c = by_bytes c.args.size c.args.bytes (2 ^ c.args.bits)
