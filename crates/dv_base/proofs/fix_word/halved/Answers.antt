use Rattle.std.proofs.Common.{arith}
use Rattle.dv_base.proofs.Products.{halved_once, halvings-bound, halvings-small}
use Rattle.dv_base.proofs.fix_word.halved.Goals as goal

pub overflow_add-times : goal.overflow_add-times
overflow_add-times c = omega (arith, halvings-bound c.args.size)

pub loop-reduced-preserved : goal.loop-reduced-preserved
loop-reduced-preserved c =
    let next = halved_once c.args.size c.loop-reduced.times c.loop-reduced.reduced c.requires c.loop-reduced.invariant.ahead c.loop-reduced.invariant.value (omega arith) in
    record { ahead = next.0; value = next.1 }

pub returns-clause-times : goal.returns-clause-times
returns-clause-times c = omega (arith, halvings-small c.loop-reduced.reduced (omega arith))

pub returns-clause-few : goal.returns-clause-few
returns-clause-few c = omega (arith, halvings-bound c.args.size)
