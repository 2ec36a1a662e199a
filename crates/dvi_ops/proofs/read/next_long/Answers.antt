use Rattle.std.proofs.Common.{arith, ◌+◌, ◌-◌, ◌∙◌, refl, sym, inl, take, drop, length}
use Rattle.dvi_ops.specs.Spelling.{byte_at}
use Rattle.dvi_ops.specs.View.{view}
use Rattle.dvi_ops.proofs.Texts.{spelled, past, no_text, meaning_of_low, meaning_of_move, meaning_of_high}
use Rattle.dvi_ops.proofs.read.next_long.Goals as goal

pub returns-then-op-lt143-clause-found : goal.returns-then-op-lt143-clause-found
returns-then-op-lt143-clause-found c =
    let bytes = c.args.bytes.now in
    let at = c.args.at in
    let op = byte_at bytes at in
    let fixed = c.fixed_len-fixed.result in
    let rest = take (length bytes - (at + 1)) (drop (at + 1) bytes) in
    let s = spelled bytes at fixed rest (view c.read_low.result) refl c.requires.inside (omega arith) (omega (arith, no_text op rest (inl (omega arith)))) (omega arith)
    (c.read_low.ensures ∙ sym (meaning_of_low op (take fixed rest) (omega arith))) in
    (omega arith, s.0, s.1)

pub returns-then-op-lt171-clause-found : goal.returns-then-op-lt171-clause-found
returns-then-op-lt171-clause-found c =
    let bytes = c.args.bytes.now in
    let at = c.args.at in
    let op = byte_at bytes at in
    let fixed = c.fixed_len-fixed.result in
    let rest = take (length bytes - (at + 1)) (drop (at + 1) bytes) in
    let s = spelled bytes at fixed rest (view c.read_motion.result) refl c.requires.inside (omega arith) (omega (arith, no_text op rest (inl (omega arith)))) (omega arith)
    (c.read_motion.ensures ∙ sym (meaning_of_move op (take fixed rest) (omega arith) (omega arith))) in
    (omega arith, s.0, s.1)

pub returns-clause-found : goal.returns-clause-found
returns-clause-found c =
    let bytes = c.args.bytes.now in
    let at = c.args.at in
    let op = byte_at bytes at in
    let len = c.fixed_len-fixed.result + c.text_len.result in
    let rest = take (length bytes - (at + 1)) (drop (at + 1) bytes) in
    let s = spelled bytes at len rest (view c.read_high.result) refl c.requires.inside (omega arith) (omega arith) (omega arith)
    (c.read_high.ensures ∙ sym (meaning_of_high op (take len rest) (omega arith))) in
    (omega arith, s.0, s.1)

pub returns-then-rest-len-clause-none : goal.returns-then-rest-len-clause-none
returns-then-rest-len-clause-none c =
    let bytes = c.args.bytes.now in
    let at = c.args.at in
    past bytes at (c.fixed_len-fixed.result + c.text_len.result) (take (length bytes - (at + 1)) (drop (at + 1) bytes))
    refl c.requires.inside (omega arith) (omega arith) c.if-rest-len.true
