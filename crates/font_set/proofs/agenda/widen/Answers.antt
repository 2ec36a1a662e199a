use Rattle.std.proofs.Common.{◌≡◌, ◌≤◌, ◌-◌, ◌++◌, ◌∙◌, List, Bool, false, length, vec_len, replicate, arith, ap}
use Rattle.std.proofs.lemmas.List.{take_all}
use Rattle.font_set.specs.Marks.{padded}
use Rattle.font_set.proofs.Padding.{padded_more}
use Rattle.font_set.proofs.agenda.widen.Goals as goal

pub returns-in_ok-resize-clause-same : goal.returns-in_ok-resize-clause-same
returns-in_ok-resize-clause-same c =
    let vs = c.args.met.now.items in
    let n = vec_len c.args.met.now in
    let long : n ≡ length vs = c.args.met.now.ok.0 in
    let short : length vs ≤ c.args.many = omega (arith, c.len.ensures, c.if-len-many.true, long) in
    ap padded (c.in_ok-resize.ensures.items ∙ ap (λ (ws : List Bool). ws ++ replicate (c.args.many - n) false) (take_all c.args.many vs short))
    ∙ padded_more vs (c.args.many - n) (omega (arith, short, c.requires.within, long))
