use Rattle.std.proofs.Common.{refl}
use Rattle.dvitype_list.proofs.Turning.{pop_turned, pop_none, pushes_of, stands_popped, none_saved}
use Rattle.dvitype_list.proofs.turn.pop.Goals as goal

pub returns-then-pop-clause-ok : goal.returns-then-pop-clause-ok
returns-then-pop-clause-ok c = λ set s st h.
    record {
      behind = _;
      is = pop_turned s st _ _ (pushes_of set c.args.state.now c.pop.new.self st h c.if-pop.ensures.given);
      stands = stands_popped set c.args.state.now c.pop.new.self st h c.pop.ensures.font;
    }

pub returns-else-pop-clause-fault : goal.returns-else-pop-clause-fault
returns-else-pop-clause-fault c = λ set s old new st h.
    let none = none_saved set c.args.state.now st h c.if-pop.ensures.given in
    (pop_none s st none, (refl, refl, none))
