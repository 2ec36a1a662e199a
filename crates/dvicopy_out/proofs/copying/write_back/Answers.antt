use Rattle.std.proofs.Common.{rules, w32, w64, unsigned_abs, ◌<◌, ◌^◌, ◌≡◌, ◌%◌, ◌++◌, ℕ, ℤ, List, subst, sym, ◌∙◌, length}
use Rattle.std.specs.Prelude.{FitsSigned, OnOk}
use Rattle.std.proofs.lemmas.Int.{to_z-of_z, fits_signed_from_abs}
use Rattle.dvi_ops.specs.Command.{Command, Postamble}
use Rattle.dvi_ops.specs.Command.Command.{Post, PostPost}
use Rattle.dvi_ops.specs.Shortest.{shortest}
use Rattle.dvicopy_out.specs.Spelled.{spelled}
use Rattle.dvicopy_out.specs.Copies.{Work, postamble}
use Rattle.dvicopy_out.specs.Counted.{counted}
use Rattle.dvicopy_out.specs.Leaves.{work_of}
use Rattle.dvicopy_out.specs.Numbered.{definitions}
use Rattle.dvicopy_out.specs.Sent.{Cut, Sends, Sent, cut_later, cut_longer, cut_sends, then_sends}
use Rattle.dvicopy_out.specs.Shown.{fonts_of, last_of, out_of, place_of}
use Rattle.dvicopy_out.proofs.Paging.{back_is}
use Rattle.dvicopy_out.proofs.Takes.{placed_three}
use Rattle.dvicopy_out.proofs.Walked.{begin_there}
use Rattle.dvicopy_out.proofs.copying.write_back.Goals as goal

pub returns-in_err-command-clause-sends : goal.returns-in_err-command-clause-sends
returns-in_err-command-clause-sends g c =
    let x = out_of {T = g.row.T.Denot} {G = g.T.Tray} c.args.writer.now in
    let y = out_of {T = g.row.T.Denot} {G = g.T.Tray} c.command.new.self in
    let last = last_of {T = g.row.T.Denot} {G = g.T.Tray} c.args.writer.now in
    let at = place_of {T = g.row.T.Denot} {G = g.T.Tray} c.args.writer.now in
    let w : Work = work_of c.args.doc.now (fonts_of {T = g.row.T.Denot} {G = g.T.Tray} c.args.writer.now) c.args.mag in
    let head = c.head-head.ensures.value in
    let tail = c.tail-tail.ensures in
    let back = c.last.ensures in
    let hn : FitsSigned w32 c.head-head.result.num = search rules in
    let hd : FitsSigned w32 c.head-head.result.den = search rules in
    let hm : FitsSigned w32 c.args.mag = search rules in
    let ht : FitsSigned w32 c.tail-tail.result.tall = search rules in
    let hw : FitsSigned w32 c.tail-tail.result.wide = search rules in
    let hl : FitsSigned w64 c.last.result = search rules in
    let hb : FitsSigned w32 c.last.result = fits_signed_from_abs w32 c.last.result (subst (λ (z : ℤ). unsigned_abs z < 2 ^ 31) (sym c.last.ensures) c.requires.last) in
    let now : Postamble = record { back = c.last.result; num = c.head-head.result.num; den = c.head-head.result.den; mag = c.args.mag; tall = c.tail-tail.result.tall; wide = c.tail-tail.result.wide; depth = 0; pages = c.args.pages % 65536 } in
    let said = simp (to_z-of_z w32 c.head-head.result.num hn, to_z-of_z w32 c.head-head.result.den hd, to_z-of_z w32 c.args.mag hm, to_z-of_z w32 c.tail-tail.result.tall ht, to_z-of_z w32 c.tail-tail.result.wide hw, to_z-of_z w64 c.last.result hl, to_z-of_z w32 c.last.result hb) at c.in_err-command.ensures.sends in
    let same : Post now ≡ Post (postamble w last c.args.pages) =
    λ i. Post (record { back = back i; num = (head i).num; den = (head i).den; mag = c.args.mag; tall = (tail i).tall; wide = (tail i).wide; depth = 0; pages = c.args.pages % 65536 }) in
    cut_sends _ x y c.from_residual.result c.from_residual.ensures.0
    (subst (λ text. Cut text x y) (sym (back_is w last at c.args.pages))
    (cut_longer (shortest (Post (postamble w last c.args.pages))) (spelled (definitions w.set) ++ shortest (PostPost at 2)) x y (subst (λ (cmd : Command). Cut (shortest cmd) x y) same said)))

pub put-requires : goal.put-requires
put-requires g c =
    begin_there _ (out_of {T = g.row.T.Denot} {G = g.T.Tray} c.args.writer.now) (out_of {T = g.row.T.Denot} {G = g.T.Tray} c.command.new.self) c.requires.begun c.in_ok-command.ensures.sends

pub command-requires-2-clause-begun : goal.command-requires-2-clause-begun
command-requires-2-clause-begun g c =
    begin_there _ (out_of {T = g.row.T.Denot} {G = g.T.Tray} c.command.new.self) (out_of {T = g.row.T.Denot} {G = g.T.Tray} c.put.new.self)
    (begin_there _ (out_of {T = g.row.T.Denot} {G = g.T.Tray} c.args.writer.now) (out_of {T = g.row.T.Denot} {G = g.T.Tray} c.command.new.self) c.requires.begun c.in_ok-command.ensures.sends) c.in_ok-put.ensures.sends

pub returns-in_err-put-clause-sends : goal.returns-in_err-put-clause-sends
returns-in_err-put-clause-sends g c =
    let x = out_of {T = g.row.T.Denot} {G = g.T.Tray} c.args.writer.now in
    let y = out_of {T = g.row.T.Denot} {G = g.T.Tray} c.command.new.self in
    let z = out_of {T = g.row.T.Denot} {G = g.T.Tray} c.put.new.self in
    let last = last_of {T = g.row.T.Denot} {G = g.T.Tray} c.args.writer.now in
    let at = place_of {T = g.row.T.Denot} {G = g.T.Tray} c.args.writer.now in
    let w : Work = work_of c.args.doc.now (fonts_of {T = g.row.T.Denot} {G = g.T.Tray} c.args.writer.now) c.args.mag in
    let head = c.head-head.ensures.value in
    let tail = c.tail-tail.ensures in
    let back = c.last.ensures in
    let hn : FitsSigned w32 c.head-head.result.num = search rules in
    let hd : FitsSigned w32 c.head-head.result.den = search rules in
    let hm : FitsSigned w32 c.args.mag = search rules in
    let ht : FitsSigned w32 c.tail-tail.result.tall = search rules in
    let hw : FitsSigned w32 c.tail-tail.result.wide = search rules in
    let hl : FitsSigned w64 c.last.result = search rules in
    let hb : FitsSigned w32 c.last.result = fits_signed_from_abs w32 c.last.result (subst (λ (z : ℤ). unsigned_abs z < 2 ^ 31) (sym c.last.ensures) c.requires.last) in
    let now : Postamble = record { back = c.last.result; num = c.head-head.result.num; den = c.head-head.result.den; mag = c.args.mag; tall = c.tail-tail.result.tall; wide = c.tail-tail.result.wide; depth = 0; pages = c.args.pages % 65536 } in
    let said = simp (to_z-of_z w32 c.head-head.result.num hn, to_z-of_z w32 c.head-head.result.den hd, to_z-of_z w32 c.args.mag hm, to_z-of_z w32 c.tail-tail.result.tall ht, to_z-of_z w32 c.tail-tail.result.wide hw, to_z-of_z w64 c.last.result hl, to_z-of_z w32 c.last.result hb) at c.in_ok-command.ensures.sends in
    let same : Post now ≡ Post (postamble w last c.args.pages) =
    λ i. Post (record { back = back i; num = (head i).num; den = (head i).den; mag = c.args.mag; tall = (tail i).tall; wide = (tail i).wide; depth = 0; pages = c.args.pages % 65536 }) in
    let defs : c.definitions.result.now ≡ spelled (definitions w.set) = c.definitions.ensures ∙ c.requires.definitions in
    cut_sends _ x z c.from_residual-in_err-put.result c.from_residual-in_err-put.ensures.0
    (subst (λ text. Cut text x z) (sym (back_is w last at c.args.pages))
    (cut_later (shortest (Post (postamble w last c.args.pages))) (spelled (definitions w.set) ++ shortest (PostPost at 2)) x y z (subst (λ (cmd : Command). Sent (shortest cmd) x y) same said)
    (cut_longer (spelled (definitions w.set)) (shortest (PostPost at 2)) y z (subst (λ bs. Cut bs y z) defs c.in_err-put.ensures.sends))))

pub returns-clause-sends : goal.returns-clause-sends
returns-clause-sends g c =
    let x = out_of {T = g.row.T.Denot} {G = g.T.Tray} c.args.writer.now in
    let y = out_of {T = g.row.T.Denot} {G = g.T.Tray} c.command.new.self in
    let z = out_of {T = g.row.T.Denot} {G = g.T.Tray} c.put.new.self in
    let v = out_of {T = g.row.T.Denot} {G = g.T.Tray} c.command-2.new.self in
    let last = last_of {T = g.row.T.Denot} {G = g.T.Tray} c.args.writer.now in
    let at = place_of {T = g.row.T.Denot} {G = g.T.Tray} c.args.writer.now in
    let w : Work = work_of c.args.doc.now (fonts_of {T = g.row.T.Denot} {G = g.T.Tray} c.args.writer.now) c.args.mag in
    let head = c.head-head.ensures.value in
    let tail = c.tail-tail.ensures in
    let back = c.last.ensures in
    let hn : FitsSigned w32 c.head-head.result.num = search rules in
    let hd : FitsSigned w32 c.head-head.result.den = search rules in
    let hm : FitsSigned w32 c.args.mag = search rules in
    let ht : FitsSigned w32 c.tail-tail.result.tall = search rules in
    let hw : FitsSigned w32 c.tail-tail.result.wide = search rules in
    let hl : FitsSigned w64 c.last.result = search rules in
    let hb : FitsSigned w32 c.last.result = fits_signed_from_abs w32 c.last.result (subst (λ (z : ℤ). unsigned_abs z < 2 ^ 31) (sym c.last.ensures) c.requires.last) in
    let now : Postamble = record { back = c.last.result; num = c.head-head.result.num; den = c.head-head.result.den; mag = c.args.mag; tall = c.tail-tail.result.tall; wide = c.tail-tail.result.wide; depth = 0; pages = c.args.pages % 65536 } in
    let said = simp (to_z-of_z w32 c.head-head.result.num hn, to_z-of_z w32 c.head-head.result.den hd, to_z-of_z w32 c.args.mag hm, to_z-of_z w32 c.tail-tail.result.tall ht, to_z-of_z w32 c.tail-tail.result.wide hw, to_z-of_z w64 c.last.result hl, to_z-of_z w32 c.last.result hb) at c.in_ok-command.ensures.sends in
    let same : Post now ≡ Post (postamble w last c.args.pages) =
    λ i. Post (record { back = back i; num = (head i).num; den = (head i).den; mag = c.args.mag; tall = (tail i).tall; wide = (tail i).wide; depth = 0; pages = c.args.pages % 65536 }) in
    let defs : c.definitions.result.now ≡ spelled (definitions w.set) = c.definitions.ensures ∙ c.requires.definitions in
    let place = c.place-at.ensures in
    subst (λ text. Sends text x v c.command-2.result) (sym (back_is w last at c.args.pages))
    (then_sends (shortest (Post (postamble w last c.args.pages))) (spelled (definitions w.set) ++ shortest (PostPost at 2)) x y v c.command-2.result (subst (λ (cmd : Command). Sent (shortest cmd) x y) same said)
    (then_sends (spelled (definitions w.set)) (shortest (PostPost at 2)) y z v c.command-2.result (subst (λ bs. Sent bs y z) defs c.in_ok-put.ensures.sends)
    (subst (λ (n : ℕ). Sends (shortest (PostPost n 2)) z v c.command-2.result) place c.command-2.ensures.sends)))

pub returns-clause-place : goal.returns-clause-place
returns-clause-place g c =
    let last = last_of {T = g.row.T.Denot} {G = g.T.Tray} c.args.writer.now in
    let at = place_of {T = g.row.T.Denot} {G = g.T.Tray} c.args.writer.now in
    let w : Work = work_of c.args.doc.now (fonts_of {T = g.row.T.Denot} {G = g.T.Tray} c.args.writer.now) c.args.mag in
    let head = c.head-head.ensures.value in
    let tail = c.tail-tail.ensures in
    let back = c.last.ensures in
    let hn : FitsSigned w32 c.head-head.result.num = search rules in
    let hd : FitsSigned w32 c.head-head.result.den = search rules in
    let hm : FitsSigned w32 c.args.mag = search rules in
    let ht : FitsSigned w32 c.tail-tail.result.tall = search rules in
    let hw : FitsSigned w32 c.tail-tail.result.wide = search rules in
    let hl : FitsSigned w64 c.last.result = search rules in
    let hb : FitsSigned w32 c.last.result = fits_signed_from_abs w32 c.last.result (subst (λ (z : ℤ). unsigned_abs z < 2 ^ 31) (sym c.last.ensures) c.requires.last) in
    let now : Postamble = record { back = c.last.result; num = c.head-head.result.num; den = c.head-head.result.den; mag = c.args.mag; tall = c.tail-tail.result.tall; wide = c.tail-tail.result.wide; depth = 0; pages = c.args.pages % 65536 } in
    let said = simp (to_z-of_z w32 c.head-head.result.num hn, to_z-of_z w32 c.head-head.result.den hd, to_z-of_z w32 c.args.mag hm, to_z-of_z w32 c.tail-tail.result.tall ht, to_z-of_z w32 c.tail-tail.result.wide hw, to_z-of_z w64 c.last.result hl, to_z-of_z w32 c.last.result hb) at c.in_ok-command.ensures.place in
    let same : Post now ≡ Post (postamble w last c.args.pages) =
    λ i. Post (record { back = back i; num = (head i).num; den = (head i).den; mag = c.args.mag; tall = (tail i).tall; wide = (tail i).wide; depth = 0; pages = c.args.pages % 65536 }) in
    let defs : c.definitions.result.now ≡ spelled (definitions w.set) = c.definitions.ensures ∙ c.requires.definitions in
    let place = c.place-at.ensures in
    let start = place_of {T = g.row.T.Denot} {G = g.T.Tray} c.args.writer.now in
    let one = place_of {T = g.row.T.Denot} {G = g.T.Tray} c.command.new.self in
    let two = place_of {T = g.row.T.Denot} {G = g.T.Tray} c.put.new.self in
    let three = place_of {T = g.row.T.Denot} {G = g.T.Tray} c.command-2.new.self in
    let first : one ≡ counted start (length (shortest (Post (postamble w last c.args.pages)))) = subst (λ (cmd : Command). one ≡ counted start (length (shortest cmd))) same said in
    let second : two ≡ counted one (length (spelled (definitions w.set))) = subst (λ (bs : List ℕ). two ≡ counted one (length bs)) defs c.in_ok-put.ensures.place in
    subst (λ (bs : List ℕ). OnOk c.command-2.result (three ≡ counted start (length bs))) (sym (back_is w last at c.args.pages))
    (placed_three (shortest (Post (postamble w last c.args.pages))) (spelled (definitions w.set)) (shortest (PostPost at 2)) start one two three c.command-2.result first second
    (subst (λ (n : ℕ). OnOk c.command-2.result (three ≡ counted two (length (shortest (PostPost n 2))))) place c.command-2.ensures.place))
