use Rattle.std.proofs.Common.{◌≡◌, rules, w32, to_z, of_z}
use Rattle.dvitype_list.proofs.Texting.{five}
use Rattle.dvitype_list.proofs.lines.font_end.Goals as goal

pub returns : goal.returns
returns c =
    let d = c.args.font.now in
    let size : to_z w32 (of_z w32 d.size) ≡ d.size = search rules in
    let design : to_z w32 (of_z w32 d.design) ≡ d.design = search rules in
    record {
      value =
          five c.args.line.now _ _ _ _ _ _ _ _ _ _ (rw size at c.named.ensures.value) (rw design at c.named-2.ensures.value) c.text.ensures.value c.hex_word.ensures.value
          c.text-2.ensures.value;
    }
