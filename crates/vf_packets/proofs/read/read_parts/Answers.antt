use Rattle.std.specs.Prelude.{map}
use Rattle.std.proofs.lemmas.Result.{err_from_is_err_and}
use Rattle.vf_packets.specs.Slots.{packet_in}
use Rattle.vf_packets.proofs.Gathering.{whole_file, bad_tail}
use Rattle.vf_packets.proofs.read.read_parts.Goals as goal

pub returns-in_err-locals-clause-none : goal.returns-in_err-locals-clause-none
returns-in_err-locals-clause-none c =
    let p = err_from_is_err_and c.from_residual.result c.from_residual.ensures.1 in
    rw (p.1, p.2) c.in_err-locals.ensures.err.none

pub returns-in_err-slots-clause-none : goal.returns-in_err-slots-clause-none
returns-in_err-slots-clause-none c =
    let p = err_from_is_err_and c.from_residual-in_err-slots.result c.from_residual-in_err-slots.ensures.1 in
    rw (p.1, p.2) c.in_err-slots.ensures.err.none

pub returns-then-not-is_tail-clause-none : goal.returns-then-not-is_tail-clause-none
returns-then-not-is_tail-clause-none c =
    let s = c.in_ok-slots.ensures in
    (bad_tail c.one_spelling.ensures c.args.bytes.now c.in_ok-locals.middle (map (packet_in c.args.bytes.now) c.in_ok-slots.slots.items) c.in_ok-slots.end s.found s.ends c.if-not-is_tail.ensures).none

pub returns-then-not-is_tail-clause-fault : goal.returns-then-not-is_tail-clause-fault
returns-then-not-is_tail-clause-fault c =
    let s = c.in_ok-slots.ensures in
    (bad_tail c.one_spelling.ensures c.args.bytes.now c.in_ok-locals.middle (map (packet_in c.args.bytes.now) c.in_ok-slots.slots.items) c.in_ok-slots.end s.found s.ends c.if-not-is_tail.ensures).says

pub returns-clause-found : goal.returns-clause-found
returns-clause-found c =
    let s = c.in_ok-slots.ensures in
    let bytes = c.args.bytes.now in
    let fonts = c.in_ok-locals.locals in
    let l = c.in_ok-locals.ensures.found in
    whole_file bytes fonts c.in_ok-locals.middle (map (packet_in c.args.bytes.now) c.in_ok-slots.slots.items) c.in_ok-slots.end c.in-Some.preamble.0
    l.0 l.1 s.found c.if-not-is_tail.ensures c.in-Some.ensures.1
