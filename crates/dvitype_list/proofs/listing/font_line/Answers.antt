use Rattle.std.proofs.Common.{◌++◌, ap, ◌∙◌, List, ℕ, refl}
use Rattle.dvi_ops.specs.View.{def_view}
use Rattle.dvitype_list.specs.Texts.{font_end, font_front, font_line}
use Rattle.dvitype_list.proofs.Gathering.{at_err, cut_longer, ends_ok, ends_cut}
use Rattle.dvitype_list.proofs.Texting.{piece_more, piece_two}
use Rattle.dvitype_list.proofs.listing.font_line.Goals as goal

pub returns-in_err-text-clause-cut : goal.returns-in_err-text-clause-cut
returns-in_err-text-clause-cut g c = λ first text h.
    let d = def_view c.args.font.now in
    let front = c.as_slice.ensures ∙ c.font_front.ensures.value ∙ ap (λ (x : List ℕ). x ++ font_front d) c.new-line.ensures in
    at_err c.from_residual.result
    (cut_longer first (g.T.Tray.seen c.text.new.tray) (text ++ c.as_slice.result.now) (d.name ++ font_end d) (text ++ font_line d) (piece_more text c.as_slice.result.now (font_front d) (d.name ++ font_end d) front)
    (c.in_err-text.ensures.cut first text h))

pub returns-in_err-text-2-clause-cut : goal.returns-in_err-text-2-clause-cut
returns-in_err-text-2-clause-cut g c = λ first text h.
    let d = def_view c.args.font.now in
    let front = c.as_slice.ensures ∙ c.font_front.ensures.value ∙ ap (λ (x : List ℕ). x ++ font_front d) c.new-line.ensures in
    at_err c.from_residual-in_err-text-2.result
    (cut_longer first (g.T.Tray.seen c.text-2.new.tray) ((text ++ c.as_slice.result.now) ++ d.name) (font_end d) (text ++ font_line d)
    (piece_two text c.as_slice.result.now (font_front d) d.name (font_end d) (font_end d) front refl) (c.in_err-text-2.ensures.cut first (text ++ c.as_slice.result.now) (c.in_ok-text.ensures.ok first text h)))

pub returns-clause-ok : goal.returns-clause-ok
returns-clause-ok g c = λ first text h.
    let d = def_view c.args.font.now in
    let front = c.as_slice.ensures ∙ c.font_front.ensures.value ∙ ap (λ (x : List ℕ). x ++ font_front d) c.new-line.ensures in
    let last = c.as_slice-2.ensures ∙ c.font_end.ensures.value ∙ ap (λ (x : List ℕ). x ++ font_end d) c.clear.ensures in
    ends_ok c.text-3.result first _ _ (((text ++ c.as_slice.result.now) ++ d.name) ++ c.as_slice-2.result.now) (text ++ font_line d)
    (piece_two text c.as_slice.result.now (font_front d) d.name c.as_slice-2.result.now (font_end d) front last)
    (c.text-3.ensures.ok first ((text ++ c.as_slice.result.now) ++ d.name) (c.in_ok-text-2.ensures.ok first (text ++ c.as_slice.result.now) (c.in_ok-text.ensures.ok first text h)))

pub returns-clause-cut : goal.returns-clause-cut
returns-clause-cut g c = λ first text h.
    let d = def_view c.args.font.now in
    let front = c.as_slice.ensures ∙ c.font_front.ensures.value ∙ ap (λ (x : List ℕ). x ++ font_front d) c.new-line.ensures in
    let last = c.as_slice-2.ensures ∙ c.font_end.ensures.value ∙ ap (λ (x : List ℕ). x ++ font_end d) c.clear.ensures in
    ends_cut c.text-3.result first _ (((text ++ c.as_slice.result.now) ++ d.name) ++ c.as_slice-2.result.now) (text ++ font_line d)
    (piece_two text c.as_slice.result.now (font_front d) d.name c.as_slice-2.result.now (font_end d) front last)
    (c.text-3.ensures.cut first ((text ++ c.as_slice.result.now) ++ d.name) (c.in_ok-text-2.ensures.ok first (text ++ c.as_slice.result.now) (c.in_ok-text.ensures.ok first text h)))
