use Rattle.std.proofs.Common.{◌++◌}
use Rattle.dvitype_list.specs.Texts.{done_line}
use Rattle.dvitype_list.proofs.Gathering.{ends_ok, ends_cut, line_three}
use Rattle.dvitype_list.proofs.listing.done_line.Goals as goal

pub returns-clause-ok : goal.returns-clause-ok
returns-clause-ok g c = λ first text h.
    ends_ok c.text-3.result first _ _ (text ++ c.as_slice.result.now) (text ++ done_line c.args.pages)
    (line_three text c.as_slice.result.now _ _ _ _ _ _ _ c.as_slice.ensures c.new-line.ensures c.text.ensures.value c.number.ensures.value c.text-2.ensures.value) (c.text-3.ensures.ok first text h)

pub returns-clause-cut : goal.returns-clause-cut
returns-clause-cut g c = λ first text h.
    ends_cut c.text-3.result first _ (text ++ c.as_slice.result.now) (text ++ done_line c.args.pages)
    (line_three text c.as_slice.result.now _ _ _ _ _ _ _ c.as_slice.ensures c.new-line.ensures c.text.ensures.value c.number.ensures.value c.text-2.ensures.value) (c.text-3.ensures.cut first text h)
