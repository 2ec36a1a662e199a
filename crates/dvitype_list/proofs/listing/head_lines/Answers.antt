use Rattle.std.proofs.Common.{w64, ◌++◌, ◌∷◌, [], ap, ◌∙◌, List, ℕ, length, refl}
use Rattle.std.proofs.lemmas.Int.{to_z-of_z}
use Rattle.dvi_ops.specs.View.{head_view}
use Rattle.dvitype_list.specs.Texts.{escaped, head_front, head_text}
use Rattle.dvitype_list.proofs.Gathering.{at_err, cut_longer, ends_ok, ends_cut}
use Rattle.dvitype_list.proofs.Pieces.{head_whole}
use Rattle.dvitype_list.proofs.Texting.{piece_more, piece_two}
use Rattle.dvitype_list.proofs.listing.head_lines.Goals as goal

pub returns-in_err-text-clause-cut : goal.returns-in_err-text-clause-cut
returns-in_err-text-clause-cut g c = λ first text h.
    let d = head_view c.head-head.result in
    let r = c.args.doc.now in
    let n = length c.pages.result.now in
    let head = rw (to_z-of_z w64 c.args.mag c.ranges.mag) at c.head.ensures.value in
    let front = c.as_slice.ensures ∙ head ∙ ap (λ (x : List ℕ). x ++ head_front d c.args.mag n) c.new-line.ensures in
    let whole = head_whole d r.head c.args.mag c.pages.result.now r.pages c.head-head.ensures.value c.pages.ensures in
    at_err c.from_residual.result
    (cut_longer first (g.T.Tray.seen c.text.new.tray) (text ++ c.as_slice.result.now) (escaped d.comment ++ 10 ∷ []) (text ++ head_text r.head c.args.mag (length r.pages))
    (piece_more text c.as_slice.result.now (head_front d c.args.mag n) (escaped d.comment ++ 10 ∷ []) front ∙ ap (λ (x : List ℕ). text ++ x) whole) (c.in_err-text.ensures.cut first text h))

pub returns-in_err-escaped-clause-cut : goal.returns-in_err-escaped-clause-cut
returns-in_err-escaped-clause-cut g c = λ first text h.
    let d = head_view c.head-head.result in
    let r = c.args.doc.now in
    let n = length c.pages.result.now in
    let head = rw (to_z-of_z w64 c.args.mag c.ranges.mag) at c.head.ensures.value in
    let front = c.as_slice.ensures ∙ head ∙ ap (λ (x : List ℕ). x ++ head_front d c.args.mag n) c.new-line.ensures in
    let whole = head_whole d r.head c.args.mag c.pages.result.now r.pages c.head-head.ensures.value c.pages.ensures in
    at_err c.from_residual-in_err-escaped.result
    (cut_longer first (g.T.Tray.seen c.escaped.new.tray) ((text ++ c.as_slice.result.now) ++ escaped d.comment) (10 ∷ []) (text ++ head_text r.head c.args.mag (length r.pages))
    (piece_two text c.as_slice.result.now (head_front d c.args.mag n) (escaped d.comment) (10 ∷ []) (10 ∷ []) front refl ∙ ap (λ (x : List ℕ). text ++ x) whole)
    (c.in_err-escaped.ensures.cut first (text ++ c.as_slice.result.now) (c.in_ok-text.ensures.ok first text h)))

pub returns-clause-ok : goal.returns-clause-ok
returns-clause-ok g c = λ first text h.
    let d = head_view c.head-head.result in
    let r = c.args.doc.now in
    let n = length c.pages.result.now in
    let head = rw (to_z-of_z w64 c.args.mag c.ranges.mag) at c.head.ensures.value in
    let front = c.as_slice.ensures ∙ head ∙ ap (λ (x : List ℕ). x ++ head_front d c.args.mag n) c.new-line.ensures in
    let whole = head_whole d r.head c.args.mag c.pages.result.now r.pages c.head-head.ensures.value c.pages.ensures in
    ends_ok c.text-2.result first _ _ (((text ++ c.as_slice.result.now) ++ escaped d.comment) ++ 10 ∷ []) (text ++ head_text r.head c.args.mag (length r.pages))
    (piece_two text c.as_slice.result.now (head_front d c.args.mag n) (escaped d.comment) (10 ∷ []) (10 ∷ []) front refl ∙ ap (λ (x : List ℕ). text ++ x) whole)
    (c.text-2.ensures.ok first ((text ++ c.as_slice.result.now) ++ escaped d.comment) (c.in_ok-escaped.ensures.ok first (text ++ c.as_slice.result.now) (c.in_ok-text.ensures.ok first text h)))

pub returns-clause-cut : goal.returns-clause-cut
returns-clause-cut g c = λ first text h.
    let d = head_view c.head-head.result in
    let r = c.args.doc.now in
    let n = length c.pages.result.now in
    let head = rw (to_z-of_z w64 c.args.mag c.ranges.mag) at c.head.ensures.value in
    let front = c.as_slice.ensures ∙ head ∙ ap (λ (x : List ℕ). x ++ head_front d c.args.mag n) c.new-line.ensures in
    let whole = head_whole d r.head c.args.mag c.pages.result.now r.pages c.head-head.ensures.value c.pages.ensures in
    ends_cut c.text-2.result first _ (((text ++ c.as_slice.result.now) ++ escaped d.comment) ++ 10 ∷ []) (text ++ head_text r.head c.args.mag (length r.pages))
    (piece_two text c.as_slice.result.now (head_front d c.args.mag n) (escaped d.comment) (10 ∷ []) (10 ∷ []) front refl ∙ ap (λ (x : List ℕ). text ++ x) whole)
    (c.text-2.ensures.cut first ((text ++ c.as_slice.result.now) ++ escaped d.comment) (c.in_ok-escaped.ensures.ok first (text ++ c.as_slice.result.now) (c.in_ok-text.ensures.ok first text h)))
