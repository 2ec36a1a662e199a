use Rattle.std.proofs.Common.{◌≡◌, rules, w64, to_z, of_z}
use Rattle.dvitype_list.proofs.turn.turn.Goals as goal

pub returns-in-Set-clause-ok : goal.returns-in-Set-clause-ok
returns-in-Set-clause-ok g c =
    let z : to_z w64 (of_z w64 c.in-Set.z) ≡ c.in-Set.z = search rules in
    rw c.in-Set.is (λ st h. rw z at (c.set.ensures.ok c.args.doc.now.fonts st h))

pub returns-in-Set-clause-fault : goal.returns-in-Set-clause-fault
returns-in-Set-clause-fault g c =
    let z : to_z w64 (of_z w64 c.in-Set.z) ≡ c.in-Set.z = search rules in
    rw c.in-Set.is (λ st h. rw z at (c.set.ensures.fault c.args.doc.now.fonts st h))

pub returns-in-Put-clause-ok : goal.returns-in-Put-clause-ok
returns-in-Put-clause-ok g c =
    let z : to_z w64 (of_z w64 c.in-Put.z) ≡ c.in-Put.z = search rules in
    rw c.in-Put.is (λ st h. rw z at (c.put.ensures.ok c.args.conv.now c.args.doc.now.fonts st h))

pub returns-in-Put-clause-fault : goal.returns-in-Put-clause-fault
returns-in-Put-clause-fault g c =
    let z : to_z w64 (of_z w64 c.in-Put.z) ≡ c.in-Put.z = search rules in
    rw c.in-Put.is (λ st h. rw z at (c.put.ensures.fault c.args.conv.now c.args.doc.now.fonts st h))

pub returns-in-Fnt-clause-ok : goal.returns-in-Fnt-clause-ok
returns-in-Fnt-clause-ok g c =
    let k : to_z w64 (of_z w64 c.in-Fnt.k) ≡ c.in-Fnt.k = search rules in
    rw c.in-Fnt.is (λ st h. rw k at (c.font.ensures.ok c.args.conv.now st h))

pub returns-in-Fnt-clause-fault : goal.returns-in-Fnt-clause-fault
returns-in-Fnt-clause-fault g c =
    let told = g.S.Shelf.told in
    let k : to_z w64 (of_z w64 c.in-Fnt.k) ≡ c.in-Fnt.k = search rules in
    rw c.in-Fnt.is (λ st h. rw k at (c.font.ensures.fault c.args.conv.now (told c.args.shelf.now) (told c.args.shelf.now) st h))

pub returns-in-Fnt-clause-gains : goal.returns-in-Fnt-clause-gains
returns-in-Fnt-clause-gains g c = c.font.ensures.gains _

pub returns-in-Push-clause-fault : goal.returns-in-Push-clause-fault
returns-in-Push-clause-fault g c = let told = g.S.Shelf.told in rw c.in-Push.is (λ st h. c.push.ensures.fault c.args.fonts.now _ (told c.args.shelf.now) (told c.args.shelf.now) st h)

pub returns-in-Pop-clause-fault : goal.returns-in-Pop-clause-fault
returns-in-Pop-clause-fault g c = let told = g.S.Shelf.told in rw c.in-Pop.is (λ st h. c.pop.ensures.fault c.args.fonts.now _ (told c.args.shelf.now) (told c.args.shelf.now) st h)

pub returns-in-Eop-clause-fault : goal.returns-in-Eop-clause-fault
returns-in-Eop-clause-fault g c = let told = g.S.Shelf.told in rw c.in-Eop.is (λ st h. c.end.ensures.fault c.args.fonts.now _ (told c.args.shelf.now) (told c.args.shelf.now) st h)

pub returns-in_default-clause-ok : goal.returns-in_default-clause-ok
returns-in_default-clause-ok g c = λ st h. c.shift.ensures.ok c.args.fonts.now c.args.doc.now.fonts st h

pub returns-in_default-clause-fault : goal.returns-in_default-clause-fault
returns-in_default-clause-fault g c =
    let told = g.S.Shelf.told in
    λ st h. c.shift.ensures.fault c.args.fonts.now c.args.doc.now.fonts (told c.args.shelf.now) (told c.args.shelf.now) st h
