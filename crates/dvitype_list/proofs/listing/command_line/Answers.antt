use Rattle.std.proofs.Common.{◌++◌}
use Rattle.dvi_ops.specs.View.{view}
use Rattle.dvitype_list.proofs.Gathering.{ends_ok, ends_cut}
use Rattle.dvitype_list.proofs.Pieces.{name_front, plain_whole, special_whole}
use Rattle.dvitype_list.specs.Texts.{command_line, escaped, place_text}
use Rattle.dvitype_list.proofs.listing.command_line.Goals as goal

pub returns-in-Xxx-clause-ok : goal.returns-in-Xxx-clause-ok
returns-in-Xxx-clause-ok g c = λ first text h.
    let line = name_front c.args.at (view c.args.cmd.now) _ _ _ c.name.new.line c.clear.ensures c.number.ensures.value c.text.ensures.value c.name.ensures.value in
    ends_ok c.special_line.result first _ _ (text ++ (c.name.new.line ++ (escaped c.in-Xxx.text.now ++ place_text c.args.behind.now))) (text ++ command_line c.args.at (view c.args.cmd.now) c.args.behind.now)
    (special_whole text c.name.new.line c.args.at c.args.cmd.now c.in-Xxx.text c.args.behind.now c.in-Xxx.is line) (c.special_line.ensures.ok first text h)

pub returns-in-Xxx-clause-cut : goal.returns-in-Xxx-clause-cut
returns-in-Xxx-clause-cut g c = λ first text h.
    let line = name_front c.args.at (view c.args.cmd.now) _ _ _ c.name.new.line c.clear.ensures c.number.ensures.value c.text.ensures.value c.name.ensures.value in
    ends_cut c.special_line.result first _ (text ++ (c.name.new.line ++ (escaped c.in-Xxx.text.now ++ place_text c.args.behind.now))) (text ++ command_line c.args.at (view c.args.cmd.now) c.args.behind.now)
    (special_whole text c.name.new.line c.args.at c.args.cmd.now c.in-Xxx.text c.args.behind.now c.in-Xxx.is line) (c.special_line.ensures.cut first text h)

pub returns-in_default-clause-ok : goal.returns-in_default-clause-ok
returns-in_default-clause-ok g c = λ first text h.
    let line = name_front c.args.at (view c.args.cmd.now) _ _ _ c.name.new.line c.clear.ensures c.number.ensures.value c.text.ensures.value c.name.ensures.value in
    ends_ok c.plain_line.result first _ _ (text ++ (c.name.new.line ++ place_text c.args.behind.now)) (text ++ command_line c.args.at (view c.args.cmd.now) c.args.behind.now)
    (plain_whole text c.name.new.line c.args.at c.args.cmd.now c.args.behind.now c.in_default.not-Xxx line) (c.plain_line.ensures.ok first text h)

pub returns-in_default-clause-cut : goal.returns-in_default-clause-cut
returns-in_default-clause-cut g c = λ first text h.
    let line = name_front c.args.at (view c.args.cmd.now) _ _ _ c.name.new.line c.clear.ensures c.number.ensures.value c.text.ensures.value c.name.ensures.value in
    ends_cut c.plain_line.result first _ (text ++ (c.name.new.line ++ place_text c.args.behind.now)) (text ++ command_line c.args.at (view c.args.cmd.now) c.args.behind.now)
    (plain_whole text c.name.new.line c.args.at c.args.cmd.now c.args.behind.now c.in_default.not-Xxx line) (c.plain_line.ensures.cut first text h)
