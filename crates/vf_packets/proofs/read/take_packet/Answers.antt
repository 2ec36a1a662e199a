use Rattle.std.proofs.Common.{arith, ◌<◌, ◌∙◌, sym, refl, length}
use Rattle.std.specs.Prelude.{map}
use Rattle.vf_packets.specs.Slots.{packet_in}
use Rattle.vf_packets.specs.PacketFaults.{packet_view}
use Rattle.vf_packets.proofs.Gathering.{passed, more, bad_program, twice, short, bad_order, told_at, told_some, told_none, map_set}
use Rattle.vf_packets.proofs.read.take_packet.Goals as goal

pub returns-then-bytes-at-gt-LONG-clause-err : goal.returns-then-bytes-at-gt-LONG-clause-err
returns-then-bytes-at-gt-LONG-clause-err c =
    let bytes = c.args.bytes.now in
    bad_order c.one_spelling.ensures bytes c.args.middle (map (packet_in bytes) c.args.slots.now.items) c.args.at c.requires.reached c.requires.inside c.if-bytes-at-gt-LONG.true c.requires.byte

pub returns-in_default-clause-err : goal.returns-in_default-clause-err
returns-in_default-clause-err c =
    let bytes = c.args.bytes.now in
    short c.one_spelling.ensures bytes c.args.middle (map (packet_in bytes) c.args.slots.now.items) c.args.at c.requires.reached c.in_default.ensures

pub returns-then-not-is_program-clause-err : goal.returns-then-not-is_program-clause-err
returns-then-not-is_program-clause-err c =
    let bytes = c.args.bytes.now in
    let p = c.in-Some.packet in
    let f = c.in-Some.ensures in
    bad_program c.one_spelling.ensures bytes c.args.middle (map (packet_in bytes) c.args.slots.now.items) c.args.at c.requires.reached (packet_view bytes p) p.end p.code f.within f.found c.if-packet-le255.true refl c.if-not-is_program.ensures

pub returns-then-is_taken-clause-err : goal.returns-then-is_taken-clause-err
returns-then-is_taken-clause-err c =
    let bytes = c.args.bytes.now in
    let p = c.in-Some.packet in
    let f = c.in-Some.ensures in
    let spans = c.args.slots.now.items in
    let i : p.code < length spans = (let l = c.requires.slots.long in let s = c.if-packet-le255.true in omega (arith, l, s)) in
    let t = told_at bytes spans p.code c.index.result.now i c.index.ensures in
    twice c.one_spelling.ensures bytes c.args.middle (map (packet_in bytes) spans) c.args.at c.requires.reached (packet_view bytes p) p.end p.code f.within f.found c.if-packet-le255.true refl
    (λ n. told_some bytes c.index.result.now c.if-is_taken.ensures (sym t ∙ n))

pub returns-else-is_taken-clause-ok : goal.returns-else-is_taken-clause-ok
returns-else-is_taken-clause-ok c =
    let bytes = c.args.bytes.now in
    let p = c.in-Some.packet in
    let f = c.in-Some.ensures in
    let spans = c.args.slots.now.items in
    let i : p.code < length spans = (let l = c.requires.slots.long in let s = c.if-packet-le255.true in omega (arith, l, s)) in
    let t = told_at bytes spans p.code c.index.result.now i c.index.ensures in
    more c.one_spelling.ensures bytes c.args.middle (map (packet_in bytes) spans) c.args.at c.requires.reached (packet_view bytes p) p.end _ f.within f.found c.if-packet-le255.true
    (t ∙ told_none bytes c.index.result.now c.if-is_taken.ensures) c.if-not-is_program.ensures (map_set (packet_in bytes) spans p.code _)

pub returns-else-packet-le255-clause-ok : goal.returns-else-packet-le255-clause-ok
returns-else-packet-le255-clause-ok c =
    let bytes = c.args.bytes.now in
    let p = c.in-Some.packet in
    let f = c.in-Some.ensures in
    passed c.one_spelling.ensures bytes c.args.middle (map (packet_in bytes) c.args.slots.now.items) c.args.at c.requires.reached (packet_view bytes p) p.end f.within f.found (let s = c.if-packet-le255.false in omega (arith, s))
