use Rattle.std.proofs.Common.{ap, ◌∙◌, length, take, ◌≡◌, min, arith, sym}
use Rattle.std.proofs.lemmas.List.{take_min}
use Rattle.dv_top.proofs.notes.head_of.Goals as goal

pub returns-clause-head : goal.returns-clause-head
returns-clause-head c =
    let s = c.args.special.now in
    let least : c.min.result ≡ min 60 (length s) = omega (arith, c.min.ensures) in
    ap (λ n. take n s) least ∙ take_min 60 s
