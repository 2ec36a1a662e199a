use Rattle.std.proofs.Common.{◌≡◌, ◌∙◌, ◌+◌, ap, arith, sym, ℕ}
use Rattle.dv_base.specs.Cursor.{Reading}
use Rattle.dv_base.specs.Numbers.{unsigned}
use Rattle.dv_base.proofs.Taken.{three_taken, bytes_taken, number_taken, none_taken}
use Rattle.pk_raster.proofs.read.read_preamble.Goals.{then-first-via-then-first, then-first-via-else-first+then-id-ne-ID}
use Rattle.pk_raster.proofs.read.read_preamble.Goals as goal

pub returns-then-first : goal.returns-then-first
returns-then-first c =
    let bytes = c.args.bytes.now in
    let comment = c.in_ok-comment.comment in
    let f = three_taken bytes c.new-cursor.result c.u8.new.self c.u8-2.new.self c.u8-3.new.self c.in_ok-first.first c.in_ok-id.id comment
    c.new-cursor.ensures c.in_ok-first.ensures c.in_ok-id.ensures c.in_ok-comment.ensures in
    λ h. elim c.then-first.branch [
      | then-first-via-then-first w ↦ w.if-first.true (f.1 ∙ h.first)
      | then-first-via-else-first+then-id-ne-ID w ↦ w.if-id-ne-ID.true (f.2 ∙ h.id)
    ]

pub returns-in_err-take : goal.returns-in_err-take
returns-in_err-take c =
    let bytes = c.args.bytes.now in
    let comment = c.in_ok-comment.comment in
    let f = three_taken bytes c.new-cursor.result c.u8.new.self c.u8-2.new.self c.u8-3.new.self c.in_ok-first.first c.in_ok-id.id comment
    c.new-cursor.ensures c.in_ok-first.ensures c.in_ok-id.ensures c.in_ok-comment.ensures in
    let short = none_taken bytes 3 comment c.u8-3.new.self f.4 c.in_err-take.ensures.0 in
    rw c.from_residual-in_err-take.ensures (λ h. omega (arith, short, f.3, h.whole))

pub returns-in_err-_design : goal.returns-in_err-_design
returns-in_err-_design c =
    let bytes = c.args.bytes.now in
    let comment = c.in_ok-comment.comment in
    let f = three_taken bytes c.new-cursor.result c.u8.new.self c.u8-2.new.self c.u8-3.new.self c.in_ok-first.first c.in_ok-id.id comment
    c.new-cursor.ensures c.in_ok-first.ensures c.in_ok-id.ensures c.in_ok-comment.ensures in
    let text = bytes_taken bytes 3 comment c.u8-3.new.self c.take.new.self c.in_ok-take.field-0.now f.0 f.4 c.in_ok-take.ensures in
    let short = none_taken bytes (3 + comment) 4 c.take.new.self text.1 c.in_err-_design.ensures.0 in
    rw c.from_residual-in_err-_design.ensures (λ h. omega (arith, short, f.3, h.whole))

pub returns-in_err-checksum : goal.returns-in_err-checksum
returns-in_err-checksum c =
    let bytes = c.args.bytes.now in
    let comment = c.in_ok-comment.comment in
    let f = three_taken bytes c.new-cursor.result c.u8.new.self c.u8-2.new.self c.u8-3.new.self c.in_ok-first.first c.in_ok-id.id comment
    c.new-cursor.ensures c.in_ok-first.ensures c.in_ok-id.ensures c.in_ok-comment.ensures in
    let text = bytes_taken bytes 3 comment c.u8-3.new.self c.take.new.self c.in_ok-take.field-0.now f.0 f.4 c.in_ok-take.ensures in
    let design = number_taken bytes (3 + comment) 4 c.take.new.self c.u32.new.self c.in_ok-_design._design text.0 text.1 c.in_ok-_design.ensures in
    let short = none_taken bytes (3 + comment + 4) 4 c.u32.new.self design.2 c.in_err-checksum.ensures.0 in
    rw c.from_residual-in_err-checksum.ensures (λ h. omega (arith, short, f.3, h.whole))

pub returns-in_err-_across : goal.returns-in_err-_across
returns-in_err-_across c =
    let bytes = c.args.bytes.now in
    let comment = c.in_ok-comment.comment in
    let f = three_taken bytes c.new-cursor.result c.u8.new.self c.u8-2.new.self c.u8-3.new.self c.in_ok-first.first c.in_ok-id.id comment
    c.new-cursor.ensures c.in_ok-first.ensures c.in_ok-id.ensures c.in_ok-comment.ensures in
    let text = bytes_taken bytes 3 comment c.u8-3.new.self c.take.new.self c.in_ok-take.field-0.now f.0 f.4 c.in_ok-take.ensures in
    let design = number_taken bytes (3 + comment) 4 c.take.new.self c.u32.new.self c.in_ok-_design._design text.0 text.1 c.in_ok-_design.ensures in
    let sum = number_taken bytes (3 + comment + 4) 4 c.u32.new.self c.u32-2.new.self c.in_ok-checksum.checksum design.0 design.2 c.in_ok-checksum.ensures in
    let short = none_taken bytes (3 + comment + 4 + 4) 4 c.u32-2.new.self sum.2 c.in_err-_across.ensures.0 in
    rw c.from_residual-in_err-_across.ensures (λ h. omega (arith, short, f.3, h.whole))

pub returns-in_err-_down : goal.returns-in_err-_down
returns-in_err-_down c =
    let bytes = c.args.bytes.now in
    let comment = c.in_ok-comment.comment in
    let f = three_taken bytes c.new-cursor.result c.u8.new.self c.u8-2.new.self c.u8-3.new.self c.in_ok-first.first c.in_ok-id.id comment
    c.new-cursor.ensures c.in_ok-first.ensures c.in_ok-id.ensures c.in_ok-comment.ensures in
    let text = bytes_taken bytes 3 comment c.u8-3.new.self c.take.new.self c.in_ok-take.field-0.now f.0 f.4 c.in_ok-take.ensures in
    let design = number_taken bytes (3 + comment) 4 c.take.new.self c.u32.new.self c.in_ok-_design._design text.0 text.1 c.in_ok-_design.ensures in
    let sum = number_taken bytes (3 + comment + 4) 4 c.u32.new.self c.u32-2.new.self c.in_ok-checksum.checksum design.0 design.2 c.in_ok-checksum.ensures in
    let across = number_taken bytes (3 + comment + 4 + 4) 4 c.u32-2.new.self c.u32-3.new.self c.in_ok-_across._across sum.0 sum.2 c.in_ok-_across.ensures in
    let short = none_taken bytes (3 + comment + 4 + 4 + 4) 4 c.u32-3.new.self across.2 c.in_err-_down.ensures.0 in
    rw c.from_residual-in_err-_down.ensures (λ h. omega (arith, short, f.3, h.whole))

pub returns : goal.returns
returns c =
    let bytes = c.args.bytes.now in
    let comment = c.in_ok-comment.comment in
    let f = three_taken bytes c.new-cursor.result c.u8.new.self c.u8-2.new.self c.u8-3.new.self c.in_ok-first.first c.in_ok-id.id comment
    c.new-cursor.ensures c.in_ok-first.ensures c.in_ok-id.ensures c.in_ok-comment.ensures in
    let text = bytes_taken bytes 3 comment c.u8-3.new.self c.take.new.self c.in_ok-take.field-0.now f.0 f.4 c.in_ok-take.ensures in
    let design = number_taken bytes (3 + comment) 4 c.take.new.self c.u32.new.self c.in_ok-_design._design text.0 text.1 c.in_ok-_design.ensures in
    let sum = number_taken bytes (3 + comment + 4) 4 c.u32.new.self c.u32-2.new.self c.in_ok-checksum.checksum design.0 design.2 c.in_ok-checksum.ensures in
    let across = number_taken bytes (3 + comment + 4 + 4) 4 c.u32-2.new.self c.u32-3.new.self c.in_ok-_across._across sum.0 sum.2 c.in_ok-_across.ensures in
    let down = number_taken bytes (3 + comment + 4 + 4 + 4) 4 c.u32-3.new.self c.u32-4.new.self c.in_ok-_down._down across.0 across.2 c.in_ok-_down.ensures in
    let place : c.place.result ≡ 3 + comment + 4 + 4 + 4 + 4 = c.place.ensures.value ∙ ap (λ (r : Reading). r.place) down.2 in (
      record { first = sym f.1 ∙ c.if-first.false; id = sym f.2 ∙ c.if-id-ne-ID.false; whole = omega (arith, down.0, f.3) },
      sum.1 ∙ ap (λ (n : ℕ). unsigned n 4 bytes) (omega (arith, f.3)),
      omega (arith, place, f.3),
    )
