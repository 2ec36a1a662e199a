use Rattle.std.proofs.Common.{◌<◌, ◌-◌, ◌/◌, ◌^◌, length, not, nat_eq, sym, ap, ◌∙◌, rules}
use Rattle.ps_emit.proofs.Blank.{marks_front}
use Rattle.ps_emit.proofs.letters.front_marks.Goals as goal

pub returns : goal.returns
returns c =
    let some : 0 < length c.args.bytes.now = search rules in
    ap (λ n. not (nat_eq (n / 2 ^ (8 - c.args.columns)) 0)) c.from.ensures ∙ sym (marks_front c.args.columns c.args.bytes.now c.requires some)
