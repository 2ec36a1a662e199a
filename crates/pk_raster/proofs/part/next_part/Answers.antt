use Rattle.std.proofs.Common.{arith}
use Rattle.pk_raster.proofs.Parted.{found_at}
use Rattle.pk_raster.proofs.part.next_part.Goals as goal

pub returns-clause-found : goal.returns-clause-found
returns-clause-found c =
    let bytes = c.args.bytes.now in
    let at = c.args.at in
    let head = c.head_len-head.result in
    let more = c.content_len.result in
    let f = found_at bytes at head more c.requires.inside c.requires.body (omega arith) c.head_len-head.ensures.value c.content_len.ensures.value c.if-args-len.false in
    record {
      further = omega arith;
      within = f.1;
      found = rw c.part_of.ensures.value f.0;
    }
