use Rattle.std.proofs.Common.{◌++◌, ◌∙◌}
use Rattle.dvitype_list.specs.Texts.{place_text}
use Rattle.dvitype_list.proofs.Gathering.{ends_ok, ends_cut}
use Rattle.dvitype_list.proofs.Texting.{piece_is}
use Rattle.dvitype_list.proofs.listing.plain_line.Goals as goal

pub returns-clause-ok : goal.returns-clause-ok
returns-clause-ok g c = λ first text h.
    ends_ok c.text.result first _ _ (text ++ c.as_slice.result.now) (text ++ (c.args.line.now ++ place_text c.args.behind.now)) (piece_is text c.as_slice.result.now _ (c.as_slice.ensures ∙ c.place.ensures.value)) (c.text.ensures.ok first text h)

pub returns-clause-cut : goal.returns-clause-cut
returns-clause-cut g c = λ first text h.
    ends_cut c.text.result first _ (text ++ c.as_slice.result.now) (text ++ (c.args.line.now ++ place_text c.args.behind.now)) (piece_is text c.as_slice.result.now _ (c.as_slice.ensures ∙ c.place.ensures.value)) (c.text.ensures.cut first text h)
