use Rattle.std.proofs.Common.{arith, refl, ◌+◌, ◌-◌, take, drop, length}
use Rattle.vf_packets.proofs.Packeted.{found_at}
use Rattle.vf_packets.proofs.packet.next_packet.Goals as goal

pub returns : goal.returns
returns c =
    let bytes = c.args.bytes.now in
    let at = c.args.at in
    found_at bytes (take (length bytes - (at + 1)) (drop (at + 1) bytes)) at c.head_len-head.result c.content_len-len.result c.code_in.result refl c.requires.inside c.requires.first
    c.head_len-head.ensures.value c.content_len-len.ensures.value c.code_in.ensures (omega arith)
