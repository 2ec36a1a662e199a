use Rattle.std.proofs.Common.{◌≡◌, rules, w32, w64, to_z, of_z}
use Rattle.dvitype_list.proofs.Texting.{six}
use Rattle.dvitype_list.proofs.lines.head.Goals as goal

pub returns : goal.returns
returns c =
    let d = c.args.head.now in
    let num : to_z w32 (of_z w32 d.num) ≡ d.num = search rules in
    let den : to_z w32 (of_z w32 d.den) ≡ d.den = search rules in
    let mag : to_z w64 (of_z w64 c.args.mag) ≡ c.args.mag = search rules in
    record {
      value =
          six c.args.line.now _ _ _ _ _ _ _ _ _ _ _ _ (rw num at c.named.ensures.value) (rw den at c.named-2.ensures.value) (rw mag at c.named-3.ensures.value) c.text.ensures.value
          c.number.ensures.value c.text-2.ensures.value;
    }
