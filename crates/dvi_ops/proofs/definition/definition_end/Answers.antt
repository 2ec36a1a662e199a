use Rattle.std.proofs.Common.{arith, ◌+◌, ◌-◌, refl, sym, take, drop, length, slice_range}
use Rattle.dvi_ops.specs.Command.{Definition}
use Rattle.dvi_ops.specs.Command.Command.{FntDef}
use Rattle.dvi_ops.specs.Spelling.{byte_at, extent, definition}
use Rattle.dvi_ops.proofs.Texts.{spelled, past, meaning_of_def}
use Rattle.dvi_ops.proofs.Defining.{is_definition, begins, none_from}
use Rattle.dvi_ops.proofs.definition.definition_end.Goals as goal

pub returns-then-op-lt243 : goal.returns-then-op-lt243
returns-then-op-lt243 c = λ d end h inside s.
    let b = begins c.args.bytes.now c.args.at end d h s in
    omega (arith, b.0, b.1)

pub returns-then-rest-fixed : goal.returns-then-rest-fixed
returns-then-rest-fixed c = λ d end h inside s.
    let bytes = c.args.bytes.now in
    let at = c.args.at in
    let rest = take (length bytes - (at + 1)) (drop (at + 1) bytes) in
    none_from bytes at (past bytes at (extent (byte_at bytes at) rest) rest refl c.requires (omega arith) refl (omega arith)) d end s

pub returns-then-rest-len : goal.returns-then-rest-len
returns-then-rest-len c = λ d end h inside s.
    let bytes = c.args.bytes.now in
    let at = c.args.at in
    let len = c.fixed_len-fixed.result + c.text_len.result in
    let rest = take (length bytes - (at + 1)) (drop (at + 1) bytes) in
    none_from bytes at (past bytes at len rest refl c.requires (omega arith) (omega arith) c.if-rest-len.true) d end s

pub returns : goal.returns
returns c =
    let bytes = c.args.bytes.now in
    let at = c.args.at in
    let op = byte_at bytes at in
    let len = c.fixed_len-fixed.result + c.text_len.result in
    let rest = take (length bytes - (at + 1)) (drop (at + 1) bytes) in
    let d : Definition = definition (op - 242) (take len rest) in
    let s = spelled bytes at len rest (FntDef d) refl c.requires (omega arith) (omega arith) (omega arith) (sym (meaning_of_def op (take len rest) (omega arith) (omega arith))) in
    (omega arith, s.0, is_definition (slice_range bytes at (at + 1 + len)) d s.1)
