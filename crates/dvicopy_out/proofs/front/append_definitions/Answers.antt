use Rattle.std.proofs.Common.{◌<◌, arith, length}
use Rattle.dvicopy_out.proofs.Making.{put_key, put_more}
use Rattle.dvicopy_out.proofs.Numbering.{definitions_sent}
use Rattle.dvicopy_out.proofs.front.append_definitions.Goals as goal

pub loop-place-preserved : goal.loop-place-preserved
loop-place-preserved c =
    let k = c.loop-place.place in
    let set = c.args.fonts.now in
    let within : k < length set.fonts = omega (arith, c.loop-place-test.true, c.count-place-end.ensures.value) in
    record {
      bytes = definitions_sent set k c.args.bytes.now.items c.loop-place.bytes.items c.append_definition.new.bytes.items within c.loop-place.invariant.bytes
          (rw c.id_at.ensures at c.in_ok-append_definition.ensures.bytes);
      keys = put_more set.fonts k within c.loop-place.invariant.keys (put_key set k (rw c.id_at.ensures at c.append_definition.ensures.key));
    }
