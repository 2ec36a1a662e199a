use Rattle.std.proofs.Common.{arith, pos, refl}
use Rattle.dvi_ops.specs.Command.Command.{Set, Nop}
use Rattle.dvi_ops.specs.Spelling.{byte_at}
use Rattle.dvi_ops.proofs.Texts.{set_single}
use Rattle.font_set.proofs.Skimming.{passes_apart}
use Rattle.font_set.proofs.skim.pass_quiet.Goals as goal

pub returns-then-is_met : goal.returns-then-is_met
returns-then-is_met c =
    let bytes = c.args.bytes.now in
    let s = set_single bytes c.args.at c.requires c.if-op-lt128.true in
    (s.0, s.1, Set (pos (byte_at bytes c.args.at)), c.if-is_met.ensures refl, s.2)

pub returns-then-is_nop : goal.returns-then-is_nop
returns-then-is_nop c = (omega arith, omega arith, Nop, tt, c.if-is_nop.ensures refl)

pub returns : goal.returns
returns c = passes_apart c.args.agenda.now.met c.args.font c.args.bytes.now c.args.at c.pass.result (c.if-not-is_apart.ensures refl) c.pass.ensures
