use Rattle.std.proofs.Common.{◌≡◌, ◌<◌, ◌∙◌, ap, subst, sym, arith, List, ℕ, length, slice_range, Some}
use Rattle.vf_packets.specs.Font.{VirtualFont, packet_of}
use Rattle.vf_packets.specs.File.{HoldsPrograms}
use Rattle.vf_packets.specs.Slots.{packet_in}
use Rattle.vf_packets.proofs.Gathering.{told_at}
use Rattle.vf_packets.proofs.vf.Vf.packet.Goals as goal

pub returns-in-Packet : goal.returns-in-Packet
returns-in-Packet c =
    let bytes = c.self.inside.bytes.items in
    let slots = c.self.inside.slots.items in
    let code = c.args.code in
    let span = c.in-Packet.span in
    let inside : code < length slots = (let l = c.self.invariant.0.long in omega (arith, l)) in
    let there : packet_of c.args.self.now code ≡ Some (slice_range c.deref.result.now span.start span.end) =
    ap (λ (f : VirtualFont). packet_of f code) (sym c.self.view_is) ∙ told_at bytes slots code c.index.result.now inside c.index.ensures
    ∙ ap (packet_in bytes) c.in-Packet.is ∙ ap (λ (bs : List ℕ). Some (slice_range bs span.start span.end)) (sym c.deref.ensures.value) in
    (there, subst HoldsPrograms c.self.view_is c.self.invariant.1 code (slice_range c.deref.result.now span.start span.end) there)
