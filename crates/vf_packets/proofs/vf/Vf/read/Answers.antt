use Rattle.std.proofs.Common.{subst, List, ℕ}
use Rattle.std.proofs.lemmas.Result.{err_from_is_err_and}
use Rattle.vf_packets.specs.Faults.{NoFont}
use Rattle.vf_packets.specs.File.{IsVf}
use Rattle.vf_packets.specs.Slots.{font_in, AreSlots}
use Rattle.vf_packets.proofs.OneFont.{holds_programs}
use Rattle.vf_packets.proofs.vf.Vf.read.Goals as goal

pub returns-in_err-checksum-clause-none : goal.returns-in_err-checksum-clause-none
returns-in_err-checksum-clause-none c =
    let p = err_from_is_err_and c.from_residual.result c.from_residual.ensures.1 in
    rw (p.1, p.2) (λ ne. subst NoFont c.deref.ensures.value (c.in_err-checksum.ensures.none ne))

pub invariant_of-result : goal.invariant_of-result
invariant_of-result c =
    let bytes = c.args.bytes.items in
    let slots = c.in_ok-checksum.slots.items in
    let checksum = c.in_ok-checksum.checksum in
    let locals = c.in_ok-checksum.locals in
    let are : AreSlots bytes slots = subst (λ (bs : List ℕ). AreSlots bs slots) c.deref.ensures.value c.in_ok-checksum.ensures.slots in
    let is : IsVf bytes (font_in checksum locals bytes slots) = subst (λ (bs : List ℕ). IsVf bs (font_in checksum locals bs slots)) c.deref.ensures.value c.in_ok-checksum.ensures.found in
    (are, holds_programs bytes (font_in checksum locals bytes slots) is)
