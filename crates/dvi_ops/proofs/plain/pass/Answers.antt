use Rattle.std.proofs.Common.{arith, ◌+◌, ◌-◌, refl, take, drop, length, []}
use Rattle.dvi_ops.specs.Spelling.{meaning, byte_at}
use Rattle.dvi_ops.proofs.Texts.{spelled, spelled_single}
use Rattle.dvi_ops.proofs.Passing.{plain, no_extent, single_passes}
use Rattle.dvi_ops.proofs.plain.pass.Goals as goal

pub returns-then-is_single : goal.returns-then-is_single
returns-then-is_single c =
    let bytes = c.args.bytes.now in
    let at = c.args.at in
    let op = byte_at bytes at in
    let is = c.if-is_single.ensures in
    let s = spelled_single bytes at (meaning op []) c.requires (omega (arith, single_passes op is.1)) is.0 refl in
    (omega arith, s.0, meaning op [], plain op [] (single_passes op is.1).0, s.1)

pub returns : goal.returns
returns c =
    let bytes = c.args.bytes.now in
    let at = c.args.at in
    let op = byte_at bytes at in
    let rest = take (length bytes - (at + 1)) (drop (at + 1) bytes) in
    let fixed = c.fixed_len-fixed.result in
    let args = take fixed rest in
    let is = c.if-not-is_plain.ensures refl in
    let s = spelled bytes at fixed rest (meaning op args) refl c.requires (omega (arith, is)) (omega (arith, no_extent op rest is)) (omega arith) refl in
    (omega arith, s.0, meaning op args, plain op args is, s.1)
