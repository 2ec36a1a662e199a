use Rattle.std.proofs.Common.{rules, ◌≡◌, ◌++◌, ap, ◌∙◌, w32}
use Rattle.std.specs.Prelude.{FitsSigned}
use Rattle.std.proofs.lemmas.Int.{to_z-of_z}
use Rattle.dvi_ops.specs.Command.{Preamble}
use Rattle.dvi_ops.specs.Command.Command.{Pre}
use Rattle.dvi_ops.specs.Shortest.{shortest}
use Rattle.dvicopy_out.specs.Copies.{preamble}
use Rattle.dvicopy_out.proofs.Numbering.{preamble_sent}
use Rattle.dvicopy_out.proofs.front.append_preamble.Goals as goal

pub returns : goal.returns
returns c =
    let h : Preamble = preamble c.args.doc.now.head c.args.mag in
    let told = c.head-head.ensures.value in
    let hn : FitsSigned w32 c.head-head.result.num = search rules in
    let hd : FitsSigned w32 c.head-head.result.den = search rules in
    let hm : FitsSigned w32 c.args.mag = search rules in
    let value = simp (to_z-of_z w32 c.head-head.result.num hn, to_z-of_z w32 c.head-head.result.den hd, to_z-of_z w32 c.args.mag hm) at c.command.ensures.value in
    let now : Preamble = record { id = 2; num = c.head-head.result.num; den = c.head-head.result.den; mag = c.args.mag; comment = c.head-head.result.comment.now } in
    let same : now ≡ h =
    λ i. record { id = 2; num = (told i).num; den = (told i).den; mag = c.args.mag; comment = (told i).comment } in
    preamble_sent c.args.bytes.now.items c.extend_from_slice.new.self.items c.extend_from_slice-2.new.self.items c.command.new.self h
    (value ∙ (λ i. c.clear.ensures i ++ shortest (Pre (same i))))
    (rw c.as_slice.ensures at c.in_ok-extend_from_slice.ensures.items)
    (c.in_ok-extend_from_slice-2.ensures.items ∙ ap (λ (p : Preamble). c.extend_from_slice.new.self.items ++ p.comment) told)
