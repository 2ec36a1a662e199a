use Rattle.std.proofs.Common.{◌++◌, ap, ◌∙◌, List, ℕ, refl}
use Rattle.dvitype_list.specs.Texts.{escaped, place_text}
use Rattle.dvitype_list.proofs.Gathering.{at_err, cut_longer, ends_ok, ends_cut}
use Rattle.dvitype_list.proofs.Texting.{piece_more, piece_two}
use Rattle.dvitype_list.proofs.listing.special_line.Goals as goal

pub returns-in_err-text-clause-cut : goal.returns-in_err-text-clause-cut
returns-in_err-text-clause-cut g c = λ first text h.
    at_err c.from_residual.result
    (cut_longer first (g.T.Tray.seen c.text.new.tray) (text ++ c.as_slice.result.now) (escaped c.args.words.now ++ place_text c.args.behind.now) (text ++ (c.args.line.now ++ (escaped c.args.words.now ++ place_text c.args.behind.now)))
    (piece_more text c.as_slice.result.now c.args.line.now (escaped c.args.words.now ++ place_text c.args.behind.now) c.as_slice.ensures) (c.in_err-text.ensures.cut first text h))

pub returns-in_err-escaped-clause-cut : goal.returns-in_err-escaped-clause-cut
returns-in_err-escaped-clause-cut g c = λ first text h.
    at_err c.from_residual-in_err-escaped.result
    (cut_longer first (g.T.Tray.seen c.escaped.new.tray) ((text ++ c.as_slice.result.now) ++ escaped c.args.words.now) (place_text c.args.behind.now) (text ++ (c.args.line.now ++ (escaped c.args.words.now ++ place_text c.args.behind.now)))
    (piece_two text c.as_slice.result.now c.args.line.now (escaped c.args.words.now) (place_text c.args.behind.now) (place_text c.args.behind.now) c.as_slice.ensures refl) (c.in_err-escaped.ensures.cut first (text ++ c.as_slice.result.now) (c.in_ok-text.ensures.ok first text h)))

pub returns-clause-ok : goal.returns-clause-ok
returns-clause-ok g c = λ first text h.
    let last = c.as_slice-2.ensures ∙ c.place.ensures.value ∙ ap (λ (x : List ℕ). x ++ place_text c.args.behind.now) c.clear.ensures in
    ends_ok c.text-2.result first _ _ (((text ++ c.as_slice.result.now) ++ escaped c.args.words.now) ++ c.as_slice-2.result.now) (text ++ (c.args.line.now ++ (escaped c.args.words.now ++ place_text c.args.behind.now)))
    (piece_two text c.as_slice.result.now c.args.line.now (escaped c.args.words.now) c.as_slice-2.result.now (place_text c.args.behind.now) c.as_slice.ensures last)
    (c.text-2.ensures.ok first ((text ++ c.as_slice.result.now) ++ escaped c.args.words.now) (c.in_ok-escaped.ensures.ok first (text ++ c.as_slice.result.now) (c.in_ok-text.ensures.ok first text h)))

pub returns-clause-cut : goal.returns-clause-cut
returns-clause-cut g c = λ first text h.
    let last = c.as_slice-2.ensures ∙ c.place.ensures.value ∙ ap (λ (x : List ℕ). x ++ place_text c.args.behind.now) c.clear.ensures in
    ends_cut c.text-2.result first _ (((text ++ c.as_slice.result.now) ++ escaped c.args.words.now) ++ c.as_slice-2.result.now) (text ++ (c.args.line.now ++ (escaped c.args.words.now ++ place_text c.args.behind.now)))
    (piece_two text c.as_slice.result.now c.args.line.now (escaped c.args.words.now) c.as_slice-2.result.now (place_text c.args.behind.now) c.as_slice.ensures last)
    (c.text-2.ensures.cut first ((text ++ c.as_slice.result.now) ++ escaped c.args.words.now) (c.in_ok-escaped.ensures.ok first (text ++ c.as_slice.result.now) (c.in_ok-text.ensures.ok first text h)))
