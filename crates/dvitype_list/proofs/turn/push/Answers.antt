use Rattle.std.proofs.Common.{arith, refl}
use Rattle.dvitype_list.proofs.Turning.{push_turned, push_none, as_many, stands_pushed}
use Rattle.dvitype_list.proofs.turn.push.Goals as goal

pub returns-then-push-clause-ok : goal.returns-then-push-clause-ok
returns-then-push-clause-ok c = λ set s st h.
    let many = as_many set c.args.state.now st h in
    record {
      behind = _;
      is = push_turned s st (omega (arith, many, c.if-push.ensures.room));
      stands = stands_pushed set c.args.state.now c.push.new.self st h c.push.ensures.pos c.push.ensures.font c.if-push.ensures.kept;
    }

pub returns-else-push-clause-fault : goal.returns-else-push-clause-fault
returns-else-push-clause-fault c = λ set s old new st h.
    let many = as_many set c.args.state.now st h in
    (push_none s st (omega (arith, many, c.if-push.ensures.room)), (refl, refl, omega (arith, many, c.if-push.ensures.room)))
