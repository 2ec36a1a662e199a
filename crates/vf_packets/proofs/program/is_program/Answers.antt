use Rattle.std.proofs.Common.{arith}
use Rattle.dvi_ops.specs.View.{view}
use Rattle.vf_packets.proofs.Stepping.{stepped, unstepped, unspelled, plain_allowed}
use Rattle.vf_packets.proofs.program.is_program.Goals as goal

pub returns-then-not-is_allowed : goal.returns-then-not-is_allowed
returns-then-not-is_allowed c = λ p.
    let f = c.in-Ok.ensures.found in
    let q = c.commands.invariant.ahead p in
    c.if-not-is_allowed.ensures (unstepped c.args.bytes.now c.commands.at c.in-Ok.next (omega (arith, f.0)) f.1 c.one_spelling.ensures (view c.in-Ok.cmd) f.2 c.commands-test.true q.commands q.spelled q.allowed).0

pub commands-preserved : goal.commands-preserved
commands-preserved c =
    let bytes = c.args.bytes.now in
    let at = c.commands.at in
    let f = c.in-Ok.ensures.found in
    record {
      within = f.1;
      ahead = λ p. (let q = c.commands.invariant.ahead p in (unstepped bytes at c.in-Ok.next (omega (arith, f.0)) f.1 c.one_spelling.ensures (view c.in-Ok.cmd) f.2 c.commands-test.true q.commands q.spelled q.allowed).1);
      back = λ p. c.commands.invariant.back (stepped bytes at c.in-Ok.next (omega (arith, f.0)) f.1 (view c.in-Ok.cmd) f.2 c.if-not-is_allowed.ensures p);
    }

pub returns-in-Err : goal.returns-in-Err
returns-in-Err c = λ p. (let q = c.commands.invariant.ahead p in unspelled c.args.bytes.now c.commands.at c.in-Err.ensures.none c.commands-test.true q.commands q.spelled)

pub commands-preserved-in-Some : goal.commands-preserved-in-Some
commands-preserved-in-Some c =
    let bytes = c.args.bytes.now in
    let at = c.commands.at in
    let next = c.in-Some.next in
    let f = c.in-Some.ensures in
    record {
      within = f.1;
      ahead = λ p. (let q = c.commands.invariant.ahead p in (unstepped bytes at next (omega (arith, f.0)) f.1 c.one_spelling.ensures f.2 f.4 c.commands-test.true q.commands q.spelled q.allowed).1);
      back = λ p. c.commands.invariant.back (stepped bytes at next (omega (arith, f.0)) f.1 f.2 f.4 (plain_allowed f.2 f.3) p);
    }
