use Rattle.std.proofs.Common.{arith, ◌≡◌, ◌∙◌, ap, length}
use Rattle.tfm_widths.specs.Widths.{widths_below}
use Rattle.tfm_widths.proofs.Tables.{none_below, one_more, length-widths_below}
use Rattle.tfm_widths.proofs.tfm.widths_of.Goals as goal

pub loop-code-init : goal.loop-code-init
loop-code-init c = rw none_below c.in_ok-widths.ensures.items

pub loop-code-preserved : goal.loop-code-preserved
loop-code-preserved c =
    rw (one_more c.args.bytes.now c.loop-code.code, ← c.loop-code.invariant, ← c.width.ensures) c.in_ok-push.ensures.items

pub returns : goal.returns
returns c =
    let all : c.loop-code.code ≡ 256 = omega arith in
    let widths = c.loop-code.invariant ∙ ap (widths_below c.args.bytes.now) all in
    record { widths = widths; count = ap length widths ∙ length-widths_below c.args.bytes.now 256 }
