use Rattle.std.proofs.Common.{arith, ◌++◌, [], sym, take, drop, get_or, ◌+◌, ◌<◌, length}
use Rattle.std.proofs.lemmas.List.{append-nil}
use Rattle.dv_base.specs.TrayLaws.{kept_start, kept_more}
use Rattle.dvitype_list.specs.Texts.{escaped, escape_byte}
use Rattle.dvitype_list.proofs.Gathering.{at_err, cut_longer, gathered_is}
use Rattle.dvitype_list.proofs.Texting.{escaped_rest, escaped_step, more_is, more_whole}
use Rattle.dvitype_list.proofs.gathered.Gatherer.escaped.Goals as goal

pub loop-byte-init : goal.loop-byte-init
loop-byte-init g c = record { keeps = kept_start _; goes = λ first text h. gathered_is _ _ _ text (text ++ []) (sym (append-nil text)) h }

pub escaped_byte-requires : goal.escaped_byte-requires
escaped_byte-requires g c = omega (arith, c.loop-byte.invariant.keeps.begun_same, c.requires.begun)

pub loop-byte-preserved : goal.loop-byte-preserved
loop-byte-preserved g c =
    let bs = c.args.bytes.now in
    let i = c.loop-byte.byte-index in
    let l : i < length bs = omega arith in
    record {
      keeps = kept_more _ _ _ c.loop-byte.invariant.keeps c.escaped_byte.ensures.keeps;
      goes = λ first text h. gathered_is _ _ _ _ _ (more_is text _ _ _ (escaped_step bs i l)) (c.in_ok-escaped_byte.ensures.ok first (text ++ escaped (take i bs)) (c.loop-byte.invariant.goes first text h));
    }

pub returns-in_err-escaped_byte-clause-cut : goal.returns-in_err-escaped_byte-clause-cut
returns-in_err-escaped_byte-clause-cut g c = λ first text h.
    let bs = c.args.bytes.now in
    let i = c.loop-byte.byte-index in
    let l : i < length bs = omega arith in
    at_err c.from_residual.result
    (cut_longer first (g.T.Tray.seen c.escaped_byte.new.tray) _ (escaped (drop (i + 1) bs)) (text ++ escaped bs) (more_whole text (escaped (take i bs)) (escape_byte (get_or bs i 0)) (escaped (drop (i + 1) bs)) (escaped bs) (escaped_rest bs i l))
    (c.in_err-escaped_byte.ensures.cut first (text ++ escaped (take i bs)) (c.loop-byte.invariant.goes first text h)))
