use Rattle.std.proofs.Common.{ap, ◌∙◌, ◌++◌}
use Rattle.ps_emit.proofs.HexRows.{byte_below, lower_same}
use Rattle.ps_emit.proofs.letters.digits.Goals as goal

pub returns-clause-value : goal.returns-clause-value
returns-clause-value c = c.text.ensures.value ∙ ap (λ bs. c.args.line.now ++ bs) (c.in-Ok.ensures.written ∙ lower_same 32 c.args.bytes.now c.requires.few (byte_below c.args.bytes.now c.type_inv.bytes))
