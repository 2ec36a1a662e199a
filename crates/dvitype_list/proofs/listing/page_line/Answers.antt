use Rattle.std.proofs.Common.{◌≡◌, ◌++◌, ◌+◌, get_or, length, pos, arith, rules, w32, to_z, of_z}
use Rattle.std.proofs.lemmas.List.{length-drop, take_all}
use Rattle.dvitype_list.specs.Texts.{page_line}
use Rattle.dvitype_list.proofs.Gathering.{ends_ok, ends_cut, line_counts}
use Rattle.dvitype_list.proofs.listing.page_line.Goals as goal

pub returns-clause-ok : goal.returns-clause-ok
returns-clause-ok g c = λ first text h.
    let cs = c.args.page.now.counts in
    let ten : length cs ≡ 10 = search rules in
    let same : to_z w32 (of_z w32 (get_or cs 0 (pos 0))) ≡ get_or cs 0 (pos 0) = search rules in
    ends_ok c.text-2.result first _ _ (text ++ c.as_slice.result.now) (text ++ page_line (c.args.place + 1) c.args.page.now.at cs)
    (line_counts text c.as_slice.result.now _ _ _ _ _ _ cs _ (pos 0) (omega (arith, ten)) (take_all 9 _ (omega (arith, ten, length-drop 1 cs))) c.as_slice.ensures c.new-line.ensures c.page.ensures.value (rw same at c.number.ensures.value) c.more_counts.ensures.value c.text.ensures.value)
    (c.text-2.ensures.ok first text h)

pub returns-clause-cut : goal.returns-clause-cut
returns-clause-cut g c = λ first text h.
    let cs = c.args.page.now.counts in
    let ten : length cs ≡ 10 = search rules in
    let same : to_z w32 (of_z w32 (get_or cs 0 (pos 0))) ≡ get_or cs 0 (pos 0) = search rules in
    ends_cut c.text-2.result first _ (text ++ c.as_slice.result.now) (text ++ page_line (c.args.place + 1) c.args.page.now.at cs)
    (line_counts text c.as_slice.result.now _ _ _ _ _ _ cs _ (pos 0) (omega (arith, ten)) (take_all 9 _ (omega (arith, ten, length-drop 1 cs))) c.as_slice.ensures c.new-line.ensures c.page.ensures.value (rw same at c.number.ensures.value) c.more_counts.ensures.value c.text.ensures.value)
    (c.text-2.ensures.cut first text h)
