use Rattle.std.proofs.Common.{◌≡◌, ◌∙◌, ◌+◌, ap, arith, sym, ℕ}
use Rattle.dv_base.specs.Cursor.{Reading}
use Rattle.dv_base.specs.Numbers.{unsigned}
use Rattle.dv_base.proofs.Taken.{three_taken, bytes_taken, number_taken, none_taken}
use Rattle.vf_packets.proofs.read.read_preamble.Goals.{then-first-via-then-first, then-first-via-else-first+then-id}
use Rattle.vf_packets.proofs.read.read_preamble.Goals as goal

pub returns-then-first : goal.returns-then-first
returns-then-first c =
    let f = three_taken c.args.bytes.now c.new-cursor.result c.u8.new.self c.u8-2.new.self c.u8-3.new.self c.in_ok-first.first c.in_ok-id.id c.in_ok-comment.comment
    c.new-cursor.ensures c.in_ok-first.ensures c.in_ok-id.ensures c.in_ok-comment.ensures in
    λ h. elim c.then-first.branch [
      | then-first-via-then-first w ↦ w.if-first.true (f.1 ∙ h.first)
      | then-first-via-else-first+then-id w ↦ w.if-id.true (f.2 ∙ h.id)
    ]

pub returns-in_err-take : goal.returns-in_err-take
returns-in_err-take c =
    let bytes = c.args.bytes.now in
    let comment = c.in_ok-comment.comment in
    let f = three_taken bytes c.new-cursor.result c.u8.new.self c.u8-2.new.self c.u8-3.new.self c.in_ok-first.first c.in_ok-id.id comment
    c.new-cursor.ensures c.in_ok-first.ensures c.in_ok-id.ensures c.in_ok-comment.ensures in
    let short = none_taken bytes 3 comment c.u8-3.new.self f.4 c.in_err-take.ensures.0 in
    rw c.from_residual-in_err-take.ensures (λ h. omega (arith, short, f.3, h.whole))

pub returns-in_err-checksum : goal.returns-in_err-checksum
returns-in_err-checksum c =
    let bytes = c.args.bytes.now in
    let comment = c.in_ok-comment.comment in
    let f = three_taken bytes c.new-cursor.result c.u8.new.self c.u8-2.new.self c.u8-3.new.self c.in_ok-first.first c.in_ok-id.id comment
    c.new-cursor.ensures c.in_ok-first.ensures c.in_ok-id.ensures c.in_ok-comment.ensures in
    let text = bytes_taken bytes 3 comment c.u8-3.new.self c.take.new.self c.in_ok-take.field-0.now f.0 f.4 c.in_ok-take.ensures in
    let short = none_taken bytes (3 + comment) 4 c.take.new.self text.1 c.in_err-checksum.ensures.0 in
    rw c.from_residual-in_err-checksum.ensures (λ h. omega (arith, short, f.3, h.whole))

pub returns-in_err-_design : goal.returns-in_err-_design
returns-in_err-_design c =
    let bytes = c.args.bytes.now in
    let comment = c.in_ok-comment.comment in
    let f = three_taken bytes c.new-cursor.result c.u8.new.self c.u8-2.new.self c.u8-3.new.self c.in_ok-first.first c.in_ok-id.id comment
    c.new-cursor.ensures c.in_ok-first.ensures c.in_ok-id.ensures c.in_ok-comment.ensures in
    let text = bytes_taken bytes 3 comment c.u8-3.new.self c.take.new.self c.in_ok-take.field-0.now f.0 f.4 c.in_ok-take.ensures in
    let sum = number_taken bytes (3 + comment) 4 c.take.new.self c.u32.new.self c.in_ok-checksum.checksum text.0 text.1 c.in_ok-checksum.ensures in
    let short = none_taken bytes (3 + comment + 4) 4 c.u32.new.self sum.2 c.in_err-_design.ensures.0 in
    rw c.from_residual-in_err-_design.ensures (λ h. omega (arith, short, f.3, h.whole))

pub returns : goal.returns
returns c =
    let bytes = c.args.bytes.now in
    let comment = c.in_ok-comment.comment in
    let f = three_taken bytes c.new-cursor.result c.u8.new.self c.u8-2.new.self c.u8-3.new.self c.in_ok-first.first c.in_ok-id.id comment
    c.new-cursor.ensures c.in_ok-first.ensures c.in_ok-id.ensures c.in_ok-comment.ensures in
    let text = bytes_taken bytes 3 comment c.u8-3.new.self c.take.new.self c.in_ok-take.field-0.now f.0 f.4 c.in_ok-take.ensures in
    let sum = number_taken bytes (3 + comment) 4 c.take.new.self c.u32.new.self c.in_ok-checksum.checksum text.0 text.1 c.in_ok-checksum.ensures in
    let design = number_taken bytes (3 + comment + 4) 4 c.u32.new.self c.u32-2.new.self c.in_ok-_design._design sum.0 sum.2 c.in_ok-_design.ensures in
    let place : c.place.result ≡ 3 + comment + 4 + 4 = c.place.ensures.value ∙ ap (λ (r : Reading). r.place) design.2 in (
      record { first = sym f.1 ∙ c.if-first.false; id = sym f.2 ∙ c.if-id.false; whole = omega (arith, design.0, f.3) },
      sum.1 ∙ ap (λ (n : ℕ). unsigned (3 + n) 4 bytes) f.3,
      omega (arith, place, f.3),
    )
