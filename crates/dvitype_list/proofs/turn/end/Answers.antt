use Rattle.std.proofs.Common.{◌<◌, ◌≡◌, length, arith, refl, rules}
use Rattle.dvitype_list.proofs.Turning.{end_turned, end_none, none_saved, as_many, nil_of}
use Rattle.dvitype_list.proofs.turn.end.Goals as goal

pub returns-then-is_empty-clause-ok : goal.returns-then-is_empty-clause-ok
returns-then-is_empty-clause-ok c = λ set s st h.
    let zero : length c.args.state.now.saved.items ≡ 0 = search rules in
    record { behind = st; is = end_turned s st (none_saved set c.args.state.now st h (nil_of c.args.state.now.saved.items zero)); stands = h }

pub returns-else-is_empty-clause-fault : goal.returns-else-is_empty-clause-fault
returns-else-is_empty-clause-fault c = λ set s old new st h.
    let many = as_many set c.args.state.now st h in
    let some : 0 < length c.args.state.now.saved.items = grind arith in
    let open_some : 0 < length st.pushes = omega (arith, many, some) in
    (end_none s st open_some, (refl, refl, open_some))
