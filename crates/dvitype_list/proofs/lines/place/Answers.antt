use Rattle.std.proofs.Common.{◌≡◌, rules, w64, to_z, of_z}
use Rattle.dvitype_list.proofs.Texting.{five}
use Rattle.dvitype_list.proofs.lines.place.Goals as goal

pub returns-clause-value : goal.returns-clause-value
returns-clause-value c =
    let p = c.args.pos.now in
    let h : to_z w64 (of_z w64 c.pos.inside.h) ≡ p.h = search rules in
    let v : to_z w64 (of_z w64 c.pos.inside.v) ≡ p.v = search rules in
    let hh : to_z w64 (of_z w64 c.pos.inside.hh) ≡ p.hh = search rules in
    let vv : to_z w64 (of_z w64 c.pos.inside.vv) ≡ p.vv = search rules in
    five c.args.line.now _ _ _ _ _ _ _ _ _ _ (rw h at c.named.ensures.value) (rw v at c.named-2.ensures.value) (rw hh at c.named-3.ensures.value) (rw vv at c.named-4.ensures.value)
    c.text.ensures.value
