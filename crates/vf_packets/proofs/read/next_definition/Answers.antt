use Rattle.vf_packets.proofs.Defined.{only_definition}
use Rattle.vf_packets.proofs.read.next_definition.Goals as goal

pub unreachable-requires : goal.unreachable-requires
unreachable-requires c =
    let f = c.in-Ok.ensures.found in
    let d = only_definition c.args.bytes.now c.args.at c.in-Ok.next c.in-Ok.cmd f.0 c.requires.inside c.requires.byte f.2 in
    c.in_default.not-FntDef d.0 d.1
