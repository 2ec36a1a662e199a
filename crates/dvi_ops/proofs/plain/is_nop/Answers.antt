use Rattle.std.proofs.Common.{arith, ◌≡◌}
use Rattle.std.proofs.lemmas.Bool.Decides.{nat_tests}
use Rattle.dvi_ops.specs.Spelling.{byte_at}
use Rattle.dvi_ops.proofs.Texts.{nop_single}
use Rattle.dvi_ops.proofs.plain.is_nop.Goals as goal

pub returns : goal.returns
returns c = λ t. (let e : byte_at c.args.bytes.now c.args.at ≡ 138 = grind (arith, nat_tests, t) in (nop_single c.args.bytes.now c.args.at c.requires e).2)
