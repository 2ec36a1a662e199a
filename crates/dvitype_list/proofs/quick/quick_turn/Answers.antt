use Rattle.std.proofs.Common.{◌≡◌, rules, w64, to_z, of_z}
use Rattle.dvitype_list.proofs.quick.quick_turn.Goals as goal

pub returns-in-Set : goal.returns-in-Set
returns-in-Set c =
    let z : to_z w64 (of_z w64 c.in-Set.z) ≡ c.in-Set.z = search rules in
    rw c.in-Set.is (λ ds st h. rw z at (c.set.ensures ds st h))

pub returns-in-Put : goal.returns-in-Put
returns-in-Put c =
    let z : to_z w64 (of_z w64 c.in-Put.z) ≡ c.in-Put.z = search rules in
    rw c.in-Put.is (λ ds st h. rw z at (c.put.ensures c.args.conv.now ds st h))

pub returns-in-Push : goal.returns-in-Push
returns-in-Push c = rw c.in-Push.is (λ ds st h. c.push.ensures c.args.fonts.now _ st h)

pub returns-in-Pop : goal.returns-in-Pop
returns-in-Pop c = rw c.in-Pop.is (λ ds st h. c.pop.ensures c.args.fonts.now _ st h)

pub returns-in_default : goal.returns-in_default
returns-in_default c = λ ds st h. c.shift.ensures c.args.fonts.now ds st h
